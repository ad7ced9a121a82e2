-- The result of an audit of texts, and its output.
use Rattle.std.specs.Prelude.{ℕ, List, [], ◌++◌, codes, decimal, length, Ok, Err, IsTrue, ◌≡◌, ◌<◌, ◌≤◌, ◌↔◌}
use Rattle.saga_def.specs.Contents.{Contents}
use Rattle.saga_text.specs.Faults.{word_of as text_word_of}
use Rattle.saga_json.specs.Faults.{word_of as cert_word_of}
use Rattle.saga_history.specs.declared.events.Event.{Event}
use Rattle.saga_history.specs.Changes.{past}
use Rattle.saga_history.specs.Rules.{IsLegal}
use Rattle.saga_log.specs.declared.faults.LogFault.TheVariants.{BadLine}
use Rattle.saga_log.specs.Logs.{log_of}
use Rattle.saga_audit.specs.declared.answers.AuditAnswer.{AuditAnswer}
use Rattle.saga_audit.specs.declared.answers.AuditAnswer.TheVariants.{Yes, No}
use Rattle.saga_audit.specs.Groups.{Audits, is_yes}
use Rattle.saga_audit.specs.Words.{word_of as reason_word_of}
use Rattle.saga_texts.specs.declared.audits.AuditConclusion.{AuditConclusion}
use Rattle.saga_texts.specs.declared.audits.AuditTexts.{AuditTexts}
use Rattle.saga_texts.specs.declared.audits.AuditConclusion.TheVariants.{TooManyDefinitions, LogTooLong, Log, Definition, Answered}
use Rattle.saga_texts.specs.declared.outputs.Output.{Output}
use Rattle.saga_texts.specs.Limits.{max_log, max_long_shelf}
use Rattle.saga_texts.specs.Lines.{line_feed}
use Rattle.saga_texts.specs.Outputs.{IsOutputWith}
use Rattle.saga_texts.specs.Shelves.{AreDefinitions, IsFirstFaulty}

-- the numbers of definitions and of bytes of the log are within the limits
pub record AreWithin (log : List ℕ) (definitions : List (List ℕ)) : Type 0 where
  pub few : length definitions ≤ max_long_shelf
  pub short : length log ≤ max_log

-- the texts hold a history and a shelf, and this is the result of the auditor, which is `Yes` exactly if the history is
-- legal over the shelf
pub record IsAudited (log : List ℕ) (definitions : List (List ℕ)) (answer : AuditAnswer) : Type 0 where
  pub within : AreWithin log definitions
  pub events : List Event
  pub shelf : List Contents
  pub log_is : log_of log ≡ Ok events
  pub shelf_is : AreDefinitions definitions shelf
  pub answers : Audits shelf events answer
  pub exact : IsTrue (is_yes answer) ↔ IsLegal shelf (past events)

-- the first fault in the order number of definitions, log, definitions; or the result of the auditor
abbrev pub AuditsTo : List ℕ → List (List ℕ) → AuditConclusion → Type 0
AuditsTo log definitions TooManyDefinitions = max_long_shelf < length definitions
AuditsTo log definitions LogTooLong = (length definitions ≤ max_long_shelf) × (max_log < length log)
AuditsTo log definitions (Log line why) = AreWithin log definitions × (log_of log ≡ Err (BadLine line why))
AuditsTo log definitions (Definition place why) =
    AreWithin log definitions × ((events : List Event) × (log_of log ≡ Ok events)) × IsFirstFaulty definitions place why
AuditsTo log definitions (Answered answer) = IsAudited log definitions answer

-- the texts hold that history and that shelf
pub record HoldAudit (log : List ℕ) (definitions : List (List ℕ)) (texts : AuditTexts) : Type 0 where
  pub within : AreWithin log definitions
  pub log_is : log_of log ≡ Ok texts.events.items
  pub shelf_is : AreDefinitions definitions texts.shelf.items

-- the first fault of texts that do not hold both
abbrev pub LackAudit : List ℕ → List (List ℕ) → AuditConclusion → Type 0
LackAudit log definitions (Answered answer) = ⊥
LackAudit log definitions conclusion = AuditsTo log definitions conclusion

abbrev pub answer_line : AuditAnswer → List ℕ
answer_line (Yes sagas ended stuck events) =
    codes "yes sagas " ++ decimal sagas ++ codes " ended " ++ decimal ended ++ codes " stuck " ++ decimal stuck
    ++ codes " events " ++ decimal events ++ line_feed
answer_line (No place why) = codes "no " ++ decimal place ++ codes " " ++ reason_word_of why ++ line_feed

abbrev pub out_of : AuditConclusion → List ℕ
out_of (Answered answer) = answer_line answer
out_of conclusion = []

abbrev pub err_of : AuditConclusion → List ℕ
err_of TooManyDefinitions = codes "sagas: too many definitions" ++ line_feed
err_of LogTooLong = codes "sagas: log: too-long" ++ line_feed
err_of (Log line why) = codes "sagas: log: line " ++ decimal line ++ codes ": " ++ cert_word_of why ++ line_feed
err_of (Definition place why) = codes "sagas: definition " ++ decimal place ++ codes ": " ++ text_word_of why ++ line_feed
err_of (Answered answer) = []

abbrev pub status_of_answer : AuditAnswer → ℕ
status_of_answer (Yes sagas ended stuck events) = 0
status_of_answer (No place why) = 1

-- 0 for yes, 1 for no, 3 for bad input
abbrev pub status_of : AuditConclusion → ℕ
status_of (Answered answer) = status_of_answer answer
status_of conclusion = 3

-- the output is that for the result of an audit of the texts
pub record IsAuditOutput (log : List ℕ) (definitions : List (List ℕ)) (output : Output) : Type 0 where
  pub conclusion : AuditConclusion
  pub comes : AuditsTo log definitions conclusion
  pub shows : IsOutputWith (out_of conclusion) (err_of conclusion) (status_of conclusion) output
