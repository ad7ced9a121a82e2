use Rattle.std.proofs.Common.{ℕ, ◌≡◌, ◌<◌, ◌+◌, ◌-◌, get_or, length}
use Rattle.saga_case.specs.declared.states.StepState.TheVariants.{Waiting}
use Rattle.saga_report.proofs.sagas.put_state.Given as goal

abbrev pub invariant-loop-states : goal.invariant-loop-states
invariant-loop-states l = (l.step < 65536) × ((s : ℕ) → get_or l.states.items s Waiting ≡ get_or l.initial.states.items s Waiting)

abbrev pub decreases-loop-states : goal.decreases-loop-states
decreases-loop-states l = l.step + 1 - length l.states.items
