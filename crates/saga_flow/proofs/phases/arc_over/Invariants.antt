use Rattle.std.proofs.Common.{◌≤◌, ◌-◌}
use Rattle.saga_flow.proofs.phases.arc_over.Given as goal

abbrev pub invariant-loop-at : goal.invariant-loop-at
invariant-loop-at l = l.end - l.many ≤ l.at
