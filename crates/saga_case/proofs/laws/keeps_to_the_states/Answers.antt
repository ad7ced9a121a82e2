use Rattle.saga_case.proofs.MemberLemmas.{failed_out, undone_out, fixed_in}
use Rattle.saga_case.proofs.laws.keeps_to_the_states.Goals as goal

pub returns : goal.returns
returns c = record {
  failed = failed_out c.args.case.now c.states.ensures.at_rest;
  undone = undone_out c.args.case.now c.states.ensures.at_rest;
  fixed = fixed_in c.args.case.now c.states.ensures.at_rest;
}
