-- The text that is printed for a result, and the exit status.
use Rattle.std.specs.Prelude.{ℕ, List, [], ◌∷◌, ◌++◌, codes}
use Rattle.std.specs.Fmt.{decimal}
use Rattle.std.specs.String.{string_bytes}
use Rattle.saga_text.specs.Faults.{word_of as text_word_of}
use Rattle.saga_json.specs.declared.faults.JsonFault.{JsonFault}
use Rattle.saga_json.specs.declared.faults.JsonFault.TheVariants.{Busy}
use Rattle.saga_json.specs.Faults.{word_of as cert_word_of}
use Rattle.saga_cert.specs.Answers.{answer_form}
use Rattle.saga_check.specs.Words.{word_of as check_word_of}
use Rattle.saga_case.specs.declared.answers.Answer.{Answer as TheAnswer}
use Rattle.saga_case.specs.declared.answers.Answer.TheVariants as answer
use Rattle.serde_json.specs.Written.{compact_text}
use Rattle.saga_texts.specs.declared.conclusions.Conclusion.{Conclusion}
use Rattle.saga_texts.specs.declared.conclusions.Conclusion.TheVariants.{Definition, CaseTooLong, Case, AnswerTooLong, Answer, Refused, Least, Blocked, Planned, Drawn}

abbrev pub line_feed : List ℕ
line_feed = 10 ∷ []

abbrev pub out_of : Conclusion → List ℕ
out_of (Least cost) = codes "least " ++ decimal cost ++ line_feed
out_of Blocked = codes "blocked" ++ line_feed
out_of (Refused fault) = codes "no " ++ check_word_of fault ++ line_feed
out_of (Planned a) = compact_text (answer_form a) ++ line_feed
out_of (Drawn text) = string_bytes text
out_of conclusion = []

-- the number of a busy step
abbrev pub step_text : JsonFault → List ℕ
step_text (Busy step) = codes " " ++ decimal step
step_text fault = []

-- the fault of a case or an answer
abbrev pub cert_line : List ℕ → JsonFault → List ℕ
cert_line part fault = codes "sagas: " ++ part ++ codes ": " ++ cert_word_of fault ++ step_text fault ++ line_feed

abbrev pub err_of : Conclusion → List ℕ
err_of (Definition fault) = codes "sagas: definition: " ++ text_word_of fault ++ line_feed
err_of CaseTooLong = codes "sagas: case: too-long" ++ line_feed
err_of (Case fault) = cert_line (codes "case") fault
err_of AnswerTooLong = codes "sagas: answer: too-long" ++ line_feed
err_of (Answer fault) = cert_line (codes "answer") fault
err_of conclusion = []

-- 0 for a plan, 1 for a chain
abbrev pub status_of_answer : TheAnswer → ℕ
status_of_answer (answer.Plan plan) = 0
status_of_answer (answer.Blocked chain) = 1

-- 0 for a positive result, 1 for a refused answer, 3 for bad input
abbrev pub status_of : Conclusion → ℕ
status_of (Least cost) = 0
status_of Blocked = 0
status_of (Refused fault) = 1
status_of (Planned a) = status_of_answer a
status_of (Drawn text) = 0
status_of conclusion = 3
