use Rattle.saga_desk.proofs.RoundLemmas.{found_looked, where_none}
use Rattle.saga_desk.proofs.desks.Slot.try_claim.Goals as goal

pub returns-clause-found : goal.returns-clause-found
returns-clause-found g c = where_none c.serve.result c.serve.ensures.found (found_looked c.deref_mut.result.now c.args.round.now c.serve.new.round)
