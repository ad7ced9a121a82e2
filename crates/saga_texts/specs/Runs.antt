-- The result of a run of texts, and its output.
use Rattle.std.specs.Prelude.{ℕ, List, [], ◌++◌, codes, decimal, length, Option, Some, None, Ok, Err, nat_lt, if◌then◌else◌, All, option_map, ◌≡◌, ◌≢◌, ◌<◌, ◌≤◌}
use Rattle.std.specs.List.{flat_map, range_with_len}
use Rattle.std.specs.String.{string_bytes}
use Rattle.saga_def.specs.Contents.{Contents}
use Rattle.saga_text.specs.Faults.{word_of as text_word_of}
use Rattle.saga_core.specs.Book.{Book}
use Rattle.saga_core.specs.Tasks.{AllAreOver}
use Rattle.saga_desk.specs.Finish.{AreOfShards, HeadlineHolds, MergesAreLegal, events_of}
use Rattle.saga_history.specs.declared.events.Event.{Event}
use Rattle.saga_history.specs.Changes.{past}
use Rattle.saga_history.specs.Headline.{Headline}
use Rattle.saga_history.specs.Rules.{IsLegal}
use Rattle.saga_log.specs.Logs.{log_of as history_of, log_text}
use Rattle.saga_report.specs.Reports.{IsCountedReport}
use Rattle.saga_script.specs.declared.faults.ScriptFault.{ScriptFault}
use Rattle.saga_script.specs.declared.faults.ScriptFault.TheVariants as bad
use Rattle.saga_script.specs.Jobs.{IsTold, IsAbortTold}
use Rattle.saga_script.specs.Scripts.{statements_of}
use Rattle.saga_script.specs.Statements.{Statement}
use Rattle.saga_work.specs.declared.faults.RunFault.{RunFault}
use Rattle.saga_work.specs.declared.faults.RunFault.TheVariants as fault
use Rattle.saga_work.specs.declared.faults.Stop.{Stop}
use Rattle.saga_work.specs.Asked.{AreAnswered, AreOpenedAsAsked}
use Rattle.saga_work.specs.Faults.{IsRunFault}
use Rattle.saga_work.specs.Words.{word_of_run, word_of_stop}
use Rattle.saga_texts.specs.declared.runs.Account.{Account}
use Rattle.saga_texts.specs.declared.runs.RunConclusion.{RunConclusion}
use Rattle.saga_texts.specs.declared.runs.RunConclusion.TheVariants.{TooManyDefinitions, Script, Definition, Fault, Told}
use Rattle.saga_texts.specs.declared.runs.RunOutput.{RunOutput}
use Rattle.saga_texts.specs.Limits.{max_shelf}
use Rattle.saga_texts.specs.Lines.{line_feed}
use Rattle.saga_texts.specs.Outputs.{IsOutputWith}
use Rattle.saga_texts.specs.Shelves.{AreDefinitions, IsFirstFaulty}

-- the report and the log of books; the log has their histories, one after the other
pub record TellsOf (shelf : List Contents) (books : List Book) (stopped : Option Stop) (account : Account) : Type 0 where
  pub report : IsCountedReport shelf (events_of books) (string_bytes account.report) account.stuck
  pub log : string_bytes account.log ≡ log_text (flat_map (λ (b : Book). b.history) books)
  pub stop : account.stopped ≡ stopped

-- The properties of the books of a run. There is a book for each shard. Each definition was opened once, in order, as
-- sagas 0, 1 and so on. Each outcome of a step, and each abort, is that of the script. If the run did not stop, each
-- saga is ended or stuck. Each merge of the histories is legal, and the main theorem holds of it.
pub record IsRunOf (shelf : List Contents) (statements : List Statement) (shards : ℕ) (stopped : Option Stop) (books : List Book) : Type 0 where
  pub shards_are : AreOfShards shelf shards books
  pub opened : AreOpenedAsAsked shards (range_with_len 0 (length shelf)) books
  pub answered : AreAnswered (IsTold statements) (IsAbortTold statements) books
  pub over : stopped ≡ None → All AllAreOver books
  pub legal : MergesAreLegal shelf books
  pub headline : HeadlineHolds shelf books

-- the log is read back as a legal history, and the main theorem holds of this history
pub record IsHeadlineLog (shelf : List Contents) (log : List ℕ) : Type 0 where
  pub history : List Event
  pub read_back : history_of log ≡ Ok history
  pub legal : IsLegal shelf (past history)
  pub headline : Headline shelf (past history)

-- the texts hold a script and a shelf, they were run, and this is the report and the log of the books
pub record IsRan (definitions : List (List ℕ)) (script : List ℕ) (shards : ℕ) (account : Account) : Type 0 where
  pub few : length definitions ≤ max_shelf
  pub statements : List Statement
  pub script_is : statements_of script ≡ Ok statements
  pub shelf : List Contents
  pub shelf_is : AreDefinitions definitions shelf
  pub books : List Book
  pub run : IsRunOf shelf statements shards account.stopped books
  pub tells : TellsOf shelf books account.stopped account
  pub written : IsHeadlineLog shelf (string_bytes account.log)

-- the script was read
pub record AreReady (definitions : List (List ℕ)) (script : List ℕ) : Type 0 where
  pub few : length definitions ≤ max_shelf
  pub statements : List Statement
  pub script_is : statements_of script ≡ Ok statements

-- the shelf was read, and a run of each of its definitions on this number of shards may end with this fault
pub record MayEndIn (definitions : List (List ℕ)) (shards : ℕ) (why : RunFault) : Type 0 where
  pub shelf : List Contents
  pub shelf_is : AreDefinitions definitions shelf
  pub fault : IsRunFault shards shelf (range_with_len 0 (length shelf)) why

-- the first fault in the order number of definitions, script, definitions; or the result of a run
abbrev pub RunsTo : List (List ℕ) → List ℕ → ℕ → RunConclusion → Type 0
RunsTo definitions script shards TooManyDefinitions = max_shelf < length definitions
RunsTo definitions script shards (Script why) =
    (length definitions ≤ max_shelf) × (statements_of script ≡ Err why) × (why ≢ bad.OutOfMemory)
RunsTo definitions script shards (Definition place why) = AreReady definitions script × IsFirstFaulty definitions place why
RunsTo definitions script shards (Fault why) =
    AreReady definitions script × MayEndIn definitions shards why × (why ≢ fault.OutOfMemory)
RunsTo definitions script shards (Told account) = IsRan definitions script shards account

abbrev pub out_of : RunConclusion → List ℕ
out_of (Told account) = string_bytes account.report
out_of conclusion = []

abbrev pub script_line : ScriptFault → List ℕ
script_line bad.TooLong = codes "sagas: script: too-long" ++ line_feed
script_line (bad.BadLine line) = codes "sagas: script: line " ++ decimal line ++ line_feed
script_line bad.OutOfMemory = []

abbrev pub stop_line : Option Stop → List ℕ
stop_line None = []
stop_line (Some why) = codes "sagas: stopped: " ++ word_of_stop why ++ line_feed

abbrev pub err_of : RunConclusion → List ℕ
err_of TooManyDefinitions = codes "sagas: too many definitions" ++ line_feed
err_of (Script why) = script_line why
err_of (Definition place why) = codes "sagas: definition " ++ decimal place ++ codes ": " ++ text_word_of why ++ line_feed
err_of (Fault why) = codes "sagas: run: " ++ word_of_run why ++ line_feed
err_of (Told account) = stop_line account.stopped

-- 1 if a saga is stuck; 4 if the run stopped
abbrev pub status_told : Option Stop → ℕ → ℕ
status_told None stuck = if nat_lt 0 stuck then 1 else 0
status_told (Some why) stuck = 4

abbrev pub status_of : RunConclusion → ℕ
status_of (Fault why) = 4
status_of (Told account) = status_told account.stopped account.stuck
status_of conclusion = 3

abbrev pub log_of : RunConclusion → Option (List ℕ)
log_of (Told account) = Some (string_bytes account.log)
log_of conclusion = None

-- the output is that for the result, and the log is that of the books
pub record ShowsRun (conclusion : RunConclusion) (shown : RunOutput) : Type 0 where
  pub output : IsOutputWith (out_of conclusion) (err_of conclusion) (status_of conclusion) shown.output
  pub log : option_map string_bytes shown.log ≡ log_of conclusion

-- the output and the log are those for the result of a run of the texts
pub record IsRunOutput (definitions : List (List ℕ)) (script : List ℕ) (shards : ℕ) (shown : RunOutput) : Type 0 where
  pub conclusion : RunConclusion
  pub comes : RunsTo definitions script shards conclusion
  pub shows : ShowsRun conclusion shown
