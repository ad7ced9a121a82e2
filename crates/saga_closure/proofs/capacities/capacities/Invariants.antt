use Rattle.saga_case.specs.Terms.{terms_of}
use Rattle.saga_closure.proofs.RoomLemmas.{AreLeaves, AreStands}
use Rattle.saga_closure.proofs.capacities.capacities.Given as goal

abbrev pub invariant-loop-step : goal.invariant-loop-step
invariant-loop-step l = AreLeaves (terms_of l.case) l.caps.items l.step

abbrev pub invariant-loop-step-2 : goal.invariant-loop-step-2
invariant-loop-step-2 l = AreStands (terms_of l.case) l.caps.items l.step
