-- The output for a record of many nodes.
use Rattle.std.specs.Prelude.{ℕ, Bool, List, [], ◌++◌, codes, decimal, Ok, Err, ◌≡◌, ◌+◌, ◌⊎◌}
use Rattle.saga_fleet.specs.declared.answers.RecordAnswer.{RecordAnswer}
use Rattle.saga_fleet.specs.declared.answers.RecordAnswer.TheVariants.{Yes, No}
use Rattle.saga_fleet.specs.declared.events.Event.{Event}
use Rattle.saga_fleet.specs.declared.lines.LineFault.{LineFault}
use Rattle.saga_fleet.specs.declared.lines.LineFault.TheVariants.{TooLong, BadHeader, BadLine, OutOfMemory}
use Rattle.saga_fleet.specs.Lines.{record_of}
use Rattle.saga_fleet.specs.Records.{IsAnswer}
use Rattle.saga_fleet.specs.Words.{word_of}
use Rattle.saga_texts.specs.declared.outputs.Output.{Output}
use Rattle.saga_texts.specs.Lines.{line_feed}
use Rattle.saga_texts.specs.Outputs.{IsOutputWith}

-- lines are numbered from 1, and the first event is on the second line
abbrev pub answer_line : RecordAnswer → List ℕ
answer_line (Yes sessions chunks failovers events) =
    codes "yes sessions " ++ decimal sessions ++ codes " chunks " ++ decimal chunks ++ codes " failovers " ++ decimal failovers
    ++ codes " events " ++ decimal events ++ line_feed
answer_line (No position why) = codes "no line " ++ decimal (position + 2) ++ codes " " ++ word_of why ++ line_feed

-- 0 for yes, 1 for no
abbrev pub status_of : RecordAnswer → ℕ
status_of (Yes sessions chunks failovers events) = 0
status_of (No position why) = 1

abbrev pub fault_line : LineFault → List ℕ
fault_line TooLong = codes "sagas: record: too-long" ++ line_feed
fault_line BadHeader = codes "sagas: record: no-header" ++ line_feed
fault_line (BadLine line) = codes "sagas: record: line " ++ decimal line ++ codes ": " ++ codes "not-an-event" ++ line_feed
fault_line OutOfMemory = []

-- the text is not a record, and the output has its first fault
pub record IsRefused (text : List ℕ) (output : Output) : Type 0 where
  pub fault : LineFault
  pub faulty : record_of text ≡ Err fault
  pub shows : IsOutputWith [] (fault_line fault) 3 output

-- the text is a record, and the output says whether it is one of an allowed run
pub record IsJudged (text : List ℕ) (output : Output) : Type 0 where
  pub synchronous : Bool
  pub events : List Event
  pub answer : RecordAnswer
  pub holds : record_of text ≡ Ok (synchronous, events)
  pub answers : IsAnswer synchronous events answer
  pub shows : IsOutputWith (answer_line answer) [] (status_of answer) output

abbrev pub IsRecordOutput : List ℕ → Output → Type 0
IsRecordOutput text output = IsRefused text output ⊎ IsJudged text output
