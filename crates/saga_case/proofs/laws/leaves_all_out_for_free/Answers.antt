use Rattle.saga_case.proofs.FreeLemmas.{free_is_least}
use Rattle.saga_case.proofs.laws.leaves_all_out_for_free.Goals as goal

pub returns : goal.returns
returns c = free_is_least c.args.case.now c.states.ensures.at_rest
