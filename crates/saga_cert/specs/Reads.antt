-- The result of reading a text.
use Rattle.std.specs.Prelude.{ℕ, List, length, Result, Ok, Err, ◌≡◌, ◌≢◌}
use Rattle.serde_json.specs.Data.{Data}
use Rattle.saga_def.specs.Contents.{Contents}
use Rattle.saga_case.specs.declared.answers.Answer.{Answer}
use Rattle.saga_case.specs.declared.states.StepState.{StepState}
use Rattle.saga_case.specs.Situation.{Situation, HasStates, IsFirstBusy}
use Rattle.saga_json.specs.declared.faults.JsonFault.{JsonFault}
use Rattle.saga_json.specs.declared.faults.JsonFault.TheVariants.{NotJson, WrongLength, Busy, OutOfMemory}
use Rattle.saga_json.specs.Texts.{IsTextOf}
use Rattle.saga_cert.specs.Answers.{answer_of}
use Rattle.saga_cert.specs.Cases.{Written, written_of}

-- the text is that of a value with this reading
abbrev pub HoldsAnswer : List ℕ → Result Answer JsonFault → Type 0
HoldsAnswer text reading = (value : Data) × IsTextOf value text × (answer_of value ≡ reading)

-- the answer in the text, or otherwise the first fault, except for lack of memory
abbrev pub ReadsAnswer : List ℕ → Result Answer JsonFault → Type 0
ReadsAnswer text (Err NotJson) = (value : Data) → IsTextOf value text → ⊥
ReadsAnswer text (Err OutOfMemory) = Unit {0}
ReadsAnswer text (Err WrongLength) = ⊥
ReadsAnswer text (Err (Busy step)) = ⊥
ReadsAnswer text reading = HoldsAnswer text reading

abbrev pub HoldsCase : List ℕ → Result Written JsonFault → Type 0
HoldsCase text reading = (value : Data) × IsTextOf value text × (written_of value ≡ reading)

-- the case of this definition in the text, or otherwise the first fault, except for lack of memory
abbrev pub ReadsCase : Contents → List ℕ → Result Situation JsonFault → Type 0
ReadsCase definition text (Ok c) =
    HoldsCase text (Ok (record { states = c.states; aborted = c.aborted }))
    × (c.definition ≡ definition) × HasStates definition c.states
ReadsCase definition text (Err NotJson) = (value : Data) → IsTextOf value text → ⊥
ReadsCase definition text (Err WrongLength) =
    (w : Written) × HoldsCase text (Ok w) × (length w.states ≢ length definition.steps)
ReadsCase definition text (Err (Busy step)) =
    (w : Written) × HoldsCase text (Ok w) × (length w.states ≡ length definition.steps) × IsFirstBusy w.states step
ReadsCase definition text (Err OutOfMemory) = Unit {0}
ReadsCase definition text (Err fault) = HoldsCase text (Err fault)

-- why states do not form a case of the definition
abbrev pub IsCaseFault : Contents → List StepState → JsonFault → Type 0
IsCaseFault definition states WrongLength = length states ≢ length definition.steps
IsCaseFault definition states (Busy step) = (length states ≡ length definition.steps) × IsFirstBusy states step
IsCaseFault definition states _ = ⊥
