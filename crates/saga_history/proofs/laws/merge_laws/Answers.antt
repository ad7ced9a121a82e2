use Rattle.saga_history.proofs.PartLemmas.{numbered_apart}
use Rattle.saga_history.proofs.laws.merge_laws.Goals as goal

pub returns-clause-numbered : goal.returns-clause-numbered
returns-clause-numbered c = numbered_apart c.args.shelf.now c.args.first.now c.args.second.now
