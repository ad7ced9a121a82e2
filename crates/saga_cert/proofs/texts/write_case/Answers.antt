use Rattle.saga_cert.proofs.FormLemmas.{has_float-case, depth-case, compact, text_of, case_text-read}
use Rattle.saga_cert.specs.Cases.{case_form}
use Rattle.saga_cert.proofs.texts.write_case.Goals as goal

pub returns-clause-text : goal.returns-clause-text
returns-clause-text c =
    let case = c.args.case.now in
    compact c.to_string.result (case_form case) (has_float-case case) (rw c.in_ok-value_of_case.ensures.form at c.to_string.ensures.text)

pub returns-clause-read_back : goal.returns-clause-read_back
returns-clause-read_back c =
    let case = c.args.case.now in
    case_text-read c.to_string.result case c.in_ok-value_of_case.ensures.at_rest
    (text_of c.to_string.result (case_form case) (depth-case case) (rw c.in_ok-value_of_case.ensures.form at c.to_string.ensures.reads_back))
