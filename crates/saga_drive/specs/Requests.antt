-- The request of a line.
use Rattle.std.specs.Prelude.{ℕ, List, length, Option, Some, None, Result, Ok, Err, codes, if◌then◌else◌, option_and_then, ◌≡◌, ◌<◌, ◌≤◌}
use Rattle.std.specs.Str.{bytes_eq}
use Rattle.serde_json.specs.Data.{Data, string}
use Rattle.saga_json.specs.declared.faults.JsonFault.{JsonFault}
use Rattle.saga_json.specs.declared.faults.JsonFault.TheVariants.{Kind, BadType}
use Rattle.saga_json.specs.Fields.{text_at, at_key, u16_of, u32_of}
use Rattle.saga_json.specs.Keys.{has_key, keys_fit}
use Rattle.saga_json.specs.Reads.{◌>>=◌, Gives}
use Rattle.saga_json.specs.Texts.{json_of}
use Rattle.saga_history.specs.declared.tasks.Outcome.{Outcome}
use Rattle.saga_history.specs.declared.tasks.Outcome.TheVariants.{Done, Void, Failed}
use Rattle.saga_history.specs.declared.tasks.Phase.{Phase}
use Rattle.saga_history.specs.declared.tasks.Phase.TheVariants as phase
use Rattle.saga_drive.specs.declared.verbs.Verb.{Verb}
use Rattle.saga_drive.specs.declared.verbs.Verb.TheVariants as verb
use Rattle.saga_drive.specs.declared.requests.Request.{Request}
use Rattle.saga_drive.specs.declared.requests.Request.TheVariants as request
use Rattle.saga_drive.specs.declared.requests.RequestFault.{RequestFault}
use Rattle.saga_drive.specs.declared.requests.RequestFault.TheVariants.{TooLong, Form}
use Rattle.saga_drive.specs.Fields.{attempt_of, bytes_of, most_of, u32_if, wanted_of}
use Rattle.saga_drive.specs.Verbs.{verb_named, keys_of, optional_keys_of}

-- in bytes
abbrev pub max_request : ℕ
max_request = 65536

-- the outcome of an action or a compensation, for its word
abbrev pub outcome_named : List ℕ → Result Outcome JsonFault
outcome_named word =
    if bytes_eq word (codes "ok") then Ok Done
    else (if bytes_eq word (codes "void") then Ok Void
    else (if bytes_eq word (codes "fail") then Ok Failed else Err BadType))

abbrev pub outcome_of : Data → Result Outcome JsonFault
outcome_of (string word) = outcome_named word
outcome_of _ = Err BadType

-- the task to start: the task of the given step, or the plan of the saga if no step is given
abbrev pub taken_of : ℕ → Data → Result Request JsonFault
taken_of saga value =
    if has_key (codes "step") value then at_key u16_of (codes "step") value >>= (λ step. Ok (request.TakeStep saga step))
    else Ok (request.TakePlan saga)

-- the next task, or several if a number is given
abbrev pub next_of : Data → Result Request JsonFault
next_of value =
    if has_key (codes "most") value then most_of value >>= (λ most. Ok (request.NextMany most)) else Ok request.Next

-- the number of the first saga to list, which is 0 by default
abbrev pub from_of : Data → Result ℕ JsonFault
from_of value = if has_key (codes "from") value then at_key u32_of (codes "from") value else Ok 0

-- a phase, for its word
abbrev pub phase_named : List ℕ → Result Phase JsonFault
phase_named word =
    if bytes_eq word (codes "going") then Ok phase.Going
    else (if bytes_eq word (codes "draining") then Ok phase.Draining
    else (if bytes_eq word (codes "planning") then Ok phase.Planning
    else (if bytes_eq word (codes "ended") then Ok phase.Ended
    else (if bytes_eq word (codes "stuck") then Ok phase.Stuck else Err BadType))))

abbrev pub phase_of : Data → Result Phase JsonFault
phase_of (string word) = phase_named word
phase_of _ = Err BadType

-- the sagas with the given phase, or all if no phase is given
abbrev pub sagas_of : ℕ → Data → Result Request JsonFault
sagas_of from value =
    if has_key (codes "phase") value then at_key phase_of (codes "phase") value >>= (λ phase. Ok (request.Sagas from (Some phase)))
    else Ok (request.Sagas from None)

-- the request of a verb, with the other fields of its line
abbrev pub fields_of : Verb → Data → Result Request JsonFault
fields_of verb.Open value = do
  wanted ← wanted_of value
  saga ← u32_if (codes "saga") value
  Ok (request.Open wanted saga)
fields_of verb.Next value = next_of value
fields_of verb.Take value = do
  saga ← at_key u32_of (codes "saga") value
  taken_of saga value
fields_of verb.Report value = do
  attempt ← attempt_of value
  saga ← at_key u32_of (codes "saga") value
  step ← at_key u16_of (codes "step") value
  outcome ← at_key outcome_of (codes "outcome") value
  Ok (request.Report saga step attempt outcome)
fields_of verb.Abort value = do
  saga ← at_key u32_of (codes "saga") value
  Ok (request.Abort saga)
fields_of verb.Show value = do
  saga ← at_key u32_of (codes "saga") value
  Ok (request.Show saga)
fields_of verb.Busy value = Ok request.Busy
fields_of verb.Ready value = do
  from ← from_of value
  Ok (request.Ready from)
fields_of verb.Sagas value = do
  from ← from_of value
  sagas_of from value
fields_of verb.Status value = Ok request.Status
fields_of verb.Define value = do
  text ← at_key bytes_of (codes "definition") value
  Ok (request.Define text)

unfoldable pub request_of_verb : Verb → Data → Result Request JsonFault
request_of_verb verb value = do
  _ ← keys_fit (keys_of verb) (optional_keys_of verb) value
  fields_of verb value

abbrev pub request_by : Option Verb → Data → Result Request JsonFault
request_by None value = Err Kind
request_by (Some verb) value = request_of_verb verb value

-- the verb at the key `do`
abbrev pub verb_of : Data → Option Verb
verb_of value = option_and_then verb_named (text_at (codes "do") value)

-- the request of a JSON value, or its first fault
abbrev pub request_of : Data → Result Request JsonFault
request_of value = request_by (verb_of value) value

unfoldable pub request_of_text : List ℕ → Result Request JsonFault
request_of_text text = json_of text >>= request_of

-- the request of a line, or its first fault, or lack of memory
abbrev pub ReadsRequest : List ℕ → Result Request RequestFault → Type 0
ReadsRequest line (Ok request) = (length line ≤ max_request) × (request_of_text line ≡ Ok request)
ReadsRequest line (Err TooLong) = max_request < length line
ReadsRequest line (Err (Form fault)) = (length line ≤ max_request) × Gives (λ (r : Request). r) (Err fault) (request_of_text line)
