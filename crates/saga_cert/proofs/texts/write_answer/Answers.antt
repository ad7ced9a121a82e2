use Rattle.std.proofs.Common.{lit≤}
use Rattle.saga_cert.proofs.FormLemmas.{has_float-answer, depth-answer, compact, text_of, answer_text-read}
use Rattle.saga_cert.specs.Answers.{answer_form}
use Rattle.saga_cert.proofs.texts.write_answer.Goals as goal

pub returns-clause-text : goal.returns-clause-text
returns-clause-text c =
    let answer = c.args.answer.now in
    compact c.to_string.result (answer_form answer) (has_float-answer answer) (rw c.in_ok-value_of_answer.ensures.form at c.to_string.ensures.text)

pub returns-clause-read_back : goal.returns-clause-read_back
returns-clause-read_back c =
    let answer = c.args.answer.now in
    answer_text-read c.to_string.result answer (rw c.in_ok-value_of_answer.ensures.form at c.in_ok-value_of_answer.ensures.read_back)
    (text_of c.to_string.result (answer_form answer) (rw (depth-answer answer) (lit≤ tt)) (rw c.in_ok-value_of_answer.ensures.form at c.to_string.ensures.reads_back))
