use Rattle.saga_work.specs.Answered.{MayAbort}
use Rattle.saga_work.proofs.runs.run_all.Given as goal

abbrev pub ghosts-run_with_policy : goal.ghosts-run_with_policy
ghosts-run_with_policy g a = record {
  may = g.A.Actor.may a.actor.now;
  may_abort = MayAbort (g.A.Actor.may a.actor.now) (g.A.Actor.may_abort a.actor.now);
}
