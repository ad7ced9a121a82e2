use Rattle.saga_case.proofs.MemberLemmas.{waiting_out}
use Rattle.saga_case.proofs.laws.begins_nothing_once_aborted.Goals as goal

pub returns : goal.returns
returns c = waiting_out c.args.case.now c.states.ensures.at_rest
