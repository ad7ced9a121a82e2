use Rattle.saga_views.specs.Phases.{AreFirstPhases}
use Rattle.saga_views.proofs.phases.phases_of.Given as goal

abbrev pub invariant-loop-place : goal.invariant-loop-place
invariant-loop-place l = AreFirstPhases l.book l.place l.phases.items
