use Rattle.std.proofs.Common.{◌≡◌, length}
use Rattle.saga_flow.proofs.graphs.degrees_of.Given as goal

abbrev pub invariant-loop-node : goal.invariant-loop-node
invariant-loop-node l = length l.degrees.items ≡ l.node
