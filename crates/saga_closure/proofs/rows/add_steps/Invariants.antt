use Rattle.saga_closure.specs.Rows.{AreAdded}
use Rattle.saga_closure.proofs.rows.add_steps.Given as goal

abbrev pub invariant-loop-step : goal.invariant-loop-step
invariant-loop-step l = AreAdded l.initial.words l.at l.steps l.step-index l.words
