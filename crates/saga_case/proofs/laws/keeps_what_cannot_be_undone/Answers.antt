use Rattle.saga_case.proofs.FreeLemmas.{undone_never_stands}
use Rattle.saga_case.proofs.laws.keeps_what_cannot_be_undone.Goals as goal

pub returns : goal.returns
returns c = undone_never_stands c.args.case.now c.args.step c.states.ensures.at_rest c.requires
