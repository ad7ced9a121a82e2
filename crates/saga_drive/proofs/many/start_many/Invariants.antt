use Rattle.saga_drive.specs.Many.{HasStarted}
use Rattle.saga_drive.proofs.many.start_many.Given as goal

abbrev pub invariant-loop-count : goal.invariant-loop-count
invariant-loop-count l = HasStarted l.initial.book l.book l.telling l.count
