use Rattle.saga_case.specs.declared.answers.Answer.TheVariants.{Plan, Blocked}
use Rattle.saga_cert.proofs.FormLemmas.{answer_of-plan_form, answer_of-chain_form, value-read}
use Rattle.saga_cert.proofs.written_answers.value_of_answer.Goals as goal

pub returns-in-Plan-clause-read_back : goal.returns-in-Plan-clause-read_back
returns-in-Plan-clause-read_back c =
    rw c.in-Plan.is (value-read (Plan c.in-Plan.plan) c.plan_value.result (answer_of-plan_form c.in-Plan.plan) c.plan_value.ensures)

pub returns-in-Blocked-clause-read_back : goal.returns-in-Blocked-clause-read_back
returns-in-Blocked-clause-read_back c =
    let form = rw c.as_slice.ensures at c.chain_value.ensures.form in
    let small = rw c.as_slice.ensures at c.chain_value.ensures.small in
    rw c.in-Blocked.is (value-read (Blocked c.in-Blocked.chain) c.chain_value.result (λ _. answer_of-chain_form c.in-Blocked.chain small) form)
