use Rattle.saga_flow.proofs.LawLemmas.{has_one_greatest}
use Rattle.saga_flow.proofs.laws.value_laws.Goals as goal

pub returns-clause-greatest : goal.returns-clause-greatest
returns-clause-greatest c = has_one_greatest c.args.arcs.now
