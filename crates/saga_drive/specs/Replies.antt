-- The texts of replies. Each is one compact JSON object with keys in ascending order, and a line feed.
use Rattle.std.specs.Prelude.{ℕ, List, [], ◌∷◌, ◌++◌, Bool, true, false, codes, decimal}
use Rattle.std.specs.String.{string_bytes}
use Rattle.std.specs.List.{concat}
use Rattle.serde_json.specs.Written.{compact_text}
use Rattle.saga_case.specs.declared.answers.Answer.{Answer}
use Rattle.saga_cert.specs.Answers.{answer_form}
use Rattle.saga_json.specs.Faults.{word_of as word_of_form}
use Rattle.saga_history.specs.declared.events.Event.{Event}
use Rattle.saga_history.specs.declared.tasks.Phase.{Phase}
use Rattle.saga_log.specs.Events.{event_form}
use Rattle.saga_history.specs.Tasks.{phase_word}
use Rattle.saga_views.specs.Words.{listed, truth_text}
use Rattle.saga_drive.specs.declared.replies.Reply.{Reply}
use Rattle.saga_drive.specs.declared.replies.Reply.TheVariants.{Refusal, Told}
use Rattle.saga_drive.specs.declared.requests.RequestFault.{RequestFault}
use Rattle.saga_drive.specs.declared.requests.RequestFault.TheVariants.{TooLong, Form}

-- the text of the reply, and its log lines
abbrev pub text_of : Reply → List ℕ
text_of (Refusal text) = text.now
text_of (Told text lines) = string_bytes text

abbrev pub lines_of : Reply → List ℕ
lines_of (Refusal text) = []
lines_of (Told text lines) = string_bytes lines

-- ---- refusals and faults

abbrev pub fault_text : List ℕ → List ℕ
fault_text word = codes "{\"fault\":\"" ++ word ++ codes "\"}\n"

abbrev pub refusal_text : List ℕ → List ℕ
refusal_text word = codes "{\"refused\":\"" ++ word ++ codes "\"}\n"

abbrev pub memory_word : List ℕ
memory_word = codes "out-of-memory"

-- the words are those of cases and log lines; a request has neither a set of kept steps nor states, so three of the
-- words do not occur
abbrev pub word_of_fault : RequestFault → List ℕ
word_of_fault TooLong = codes "too-long"
word_of_fault (Form fault) = word_of_form fault

-- ---- events

-- the log line as a JSON value, and the phase of its saga after the event
abbrev pub event_front : Event → List ℕ
event_front e = codes "{\"event\":" ++ compact_text (event_form e) ++ codes ",\"phase\":\""

abbrev pub event_text : Event → Phase → List ℕ
event_text e phase = event_front e ++ (phase_word phase ++ codes "\"}\n")

-- ---- plans

-- a plan, and the phase of its saga after it
abbrev pub plan_front : List ℕ → List ℕ
plan_front answer = concat (codes "{\"answer\":" ∷ answer ∷ codes ",\"phase\":\"" ∷ [])

abbrev pub plan_back : ℕ → List ℕ
plan_back saga = concat (codes "\",\"saga\":" ∷ decimal saga ∷ codes ",\"task\":\"plan\"}" ∷ [])

abbrev pub plan_text : Answer → Phase → ℕ → List ℕ
plan_text answer phase saga = plan_front (compact_text (answer_form answer)) ++ (phase_word phase ++ plan_back saga)

-- no task may start
abbrev pub idle_text : Bool → List ℕ
idle_text settled = concat (codes "{\"settled\":" ∷ truth_text settled ∷ codes ",\"task\":\"none\"}\n" ∷ [])

-- ---- the next tasks

-- more tasks may follow; or no other task may start, and the reply says whether each saga is ended or stuck
abbrev pub tasks_text : List (List ℕ) → List ℕ
tasks_text told = codes "{\"tasks\":[" ++ listed (codes ",") told ++ codes "]}\n"

abbrev pub last_tasks_front : Bool → List ℕ
last_tasks_front true = codes "{\"settled\":true,\"tasks\":["
last_tasks_front false = codes "{\"settled\":false,\"tasks\":["

abbrev pub last_tasks_text : Bool → List (List ℕ) → List ℕ
last_tasks_text settled told = last_tasks_front settled ++ listed (codes ",") told ++ codes "]}\n"
