-- Which faults a value has, and what they make of a whole reading.
use Rattle.std.proofs.Common.{◌≡◌, ℕ, ◌^◌, Bool, List, [], ◌∷◌, length, Option, Some, None, Result, Ok, Err, IfOk, IfErr, refl, nat_lt, cond, not, codes}
use Rattle.std.specs.Str.{bytes_eq}
use Rattle.serde_json.specs.Data.{Data, boolean, number, string, array, unsigned}
use Rattle.serde_json.specs.Find.{get}
use Rattle.saga_def.specs.Contents.{Contents}
use Rattle.saga_case.specs.declared.answers.Answer.{Answer}
use Rattle.saga_case.specs.declared.states.StepState.{StepState}
use Rattle.saga_case.specs.declared.states.StepState.TheVariants.{Waiting, Running, Committed, Void, Failed, Undoing, Undone, Fixed}
use Rattle.saga_case.specs.Situation.{Situation, situation, HasStates}
use Rattle.saga_bytes.proofs.ReadingLemmas.{Stays, then, each-stays, either}
use Rattle.saga_json.specs.declared.faults.JsonFault.{JsonFault}
use Rattle.saga_json.specs.declared.faults.JsonFault.TheVariants.{NotJson, Kind, UnknownKey, MissingKey, BadType, Kept, WrongLength, Busy, OutOfMemory}
use Rattle.saga_json.specs.Reads.{Fails, Gives}
use Rattle.saga_json.specs.Trees.{is_object}
use Rattle.saga_json.specs.Texts.{IsTextOf}
use Rattle.saga_json.specs.Fields.{text_at, below, u16_of, u64_of, items_of, value_in, at_key, list_of_each}
use Rattle.saga_json.specs.Keys.{has_only, has_each, keys_fit}
use Rattle.saga_cert.specs.Kept.{is_kept, marks_of, kept_of}
use Rattle.saga_cert.specs.Answers.{plan_keys, chain_keys, plan_parts_of, plan_of, chain_of, answer_of_kind, answer_of}
use Rattle.saga_cert.specs.Cases.{Written, state_named, state_of, flag_in, case_parts_of, written_of}
use Rattle.saga_cert.specs.Reads.{ReadsAnswer, HoldsCase, ReadsCase, IsCaseFault}

-- a fault of a value, and not of its text or of a case
abbrev OfValue : JsonFault → Type 0
OfValue Kind = Unit {0}
OfValue UnknownKey = Unit {0}
OfValue MissingKey = Unit {0}
OfValue BadType = Unit {0}
OfValue Kept = Unit {0}
OfValue _ = ⊥

-- the reading has no other fault
abbrev StaysInValue : {A : Type 0} → Result A JsonFault → Type 0
StaysInValue = Stays OfValue

u64_of-stays : (value : Data) → StaysInValue (u64_of value)
u64_of-stays (number (unsigned n)) = tt {0}
u64_of-stays _ = tt {0}

below-stays : (limit : ℕ) (value : Data) → StaysInValue (below limit value)
below-stays limit (number (unsigned n)) = either {A = ℕ} OfValue (nat_lt n limit) (Ok n) (Err BadType) (tt {0}) (tt {0})
below-stays limit _ = tt {0}

items_of-stays : (value : Data) → StaysInValue (items_of value)
items_of-stays (array items) = tt {0}
items_of-stays _ = tt {0}

value_in-stays : (value : Option Data) → StaysInValue (value_in value)
value_in-stays None = tt {0}
value_in-stays (Some value) = tt {0}

list_of_each-stays : {A : Type 0} (read : Data → Result A JsonFault) (value : Data) → ((d : Data) → StaysInValue (read d)) → StaysInValue (list_of_each read value)
list_of_each-stays read value h = then OfValue (items_of value) _ (items_of-stays value) (λ items. each-stays OfValue read items h)

at_key-stays : {A : Type 0} (read : Data → Result A JsonFault) (key : List ℕ) (value : Data) → ((d : Data) → StaysInValue (read d)) → StaysInValue (at_key read key value)
at_key-stays read key value h = then OfValue (value_in (get key value)) _ (value_in-stays (get key value)) h

amounts-stay : (key : List ℕ) (value : Data) → StaysInValue (at_key (list_of_each u64_of) key value)
amounts-stay key value = at_key-stays (list_of_each u64_of) key value (λ found. list_of_each-stays u64_of found u64_of-stays)

keys_fit-stays : (must may : List (List ℕ)) (value : Data) → StaysInValue (keys_fit must may value)
unfolding keys_fit
keys_fit-stays must may value =
    either {A = Unit {0}} OfValue (not (has_only must may value)) (Err UnknownKey) _ (tt {0})
    (either {A = Unit {0}} OfValue (not (has_each must value)) (Err MissingKey) (Ok (tt {0})) (tt {0}) (tt {0}))

kept_of-stays : (count : ℕ) (kept : List ℕ) → StaysInValue (kept_of count kept)
kept_of-stays count kept = either {A = List Bool} OfValue (is_kept count kept) (Ok (marks_of count kept)) (Err Kept) (tt {0}) (tt {0})

plan_parts_of-stays : (value : Data) → StaysInValue (plan_parts_of value)
unfolding plan_parts_of
plan_parts_of-stays value =
    then OfValue (at_key u64_of (codes "cost") value) _ (at_key-stays u64_of (codes "cost") value u64_of-stays) (λ cost.
    then OfValue (at_key (list_of_each u64_of) (codes "kept") value) _ (amounts-stay (codes "kept") value) (λ numbers.
    then OfValue (at_key (list_of_each u64_of) (codes "leave") value) _ (amounts-stay (codes "leave") value) (λ leave.
    then OfValue (at_key (list_of_each u64_of) (codes "stand") value) _ (amounts-stay (codes "stand") value) (λ stand.
    then OfValue (at_key (list_of_each u64_of) (codes "links") value) _ (amounts-stay (codes "links") value) (λ links.
    then OfValue (kept_of (length stand) numbers) _ (kept_of-stays (length stand) numbers) (λ kept. tt {0}))))))

plan_of-stays : (value : Data) → StaysInValue (plan_of value)
unfolding plan_of
plan_of-stays value = then OfValue (keys_fit plan_keys [] value) _ (keys_fit-stays plan_keys [] value) (λ u. plan_parts_of-stays value)

chain_of-stays : (value : Data) → StaysInValue (chain_of value)
unfolding chain_of
chain_of-stays value =
    then OfValue (keys_fit chain_keys [] value) _ (keys_fit-stays chain_keys [] value) (λ u.
    at_key-stays (list_of_each u16_of) (codes "chain") value (λ found. list_of_each-stays u16_of found (below-stays (2 ^ 16))))

answer_of_kind-stays : (kind : Option (List ℕ)) (value : Data) → StaysInValue (answer_of_kind kind value)
answer_of_kind-stays None value = tt {0}
answer_of_kind-stays (Some kind) value =
    either {A = Answer} OfValue (bytes_eq kind (codes "plan")) _ _ (then OfValue (plan_of value) _ (plan_of-stays value) (λ p. tt {0}))
    (either {A = Answer} OfValue (bytes_eq kind (codes "blocked")) _ (Err Kind) (then OfValue (chain_of value) _ (chain_of-stays value) (λ c. tt {0})) (tt {0}))

answer_of-stays : (value : Data) → StaysInValue (answer_of value)
answer_of-stays value = answer_of_kind-stays (text_at (codes "kind") value) value

-- what is read of a value is what is read of its text
pub reads_answer : (text : List ℕ) (value : Data) (reading : Result Answer JsonFault) → IsTextOf value text → Gives (λ a. a) reading (answer_of value) → ReadsAnswer text reading
reads_answer text value (Err OutOfMemory) is given = tt {0}
reads_answer text value (Err NotJson) is given = absurd (rw given at (answer_of-stays value))
reads_answer text value (Err WrongLength) is given = absurd (rw given at (answer_of-stays value))
reads_answer text value (Err (Busy step)) is given = absurd (rw given at (answer_of-stays value))
reads_answer text value reading is given = (value, is, given)

known : (test : Bool) (state : StepState) (rest : Result StepState JsonFault) → StaysInValue rest → StaysInValue (cond test (Ok state) rest)
known test state rest h = either {A = StepState} OfValue test (Ok state) rest (tt {0}) h

state_named-stays : (word : List ℕ) → StaysInValue (state_named word)
state_named-stays word =
    known (bytes_eq word (codes "waiting")) Waiting (cond (bytes_eq word (codes "running")) (Ok Running) (cond (bytes_eq word (codes "committed")) (Ok Committed) (cond (bytes_eq word (codes "void")) (Ok Void) (cond (bytes_eq word (codes "failed")) (Ok Failed) (cond (bytes_eq word (codes "undoing")) (Ok Undoing) (cond (bytes_eq word (codes "undone")) (Ok Undone) (cond (bytes_eq word (codes "fixed")) (Ok Fixed) (Err BadType))))))))
    (known (bytes_eq word (codes "running")) Running (cond (bytes_eq word (codes "committed")) (Ok Committed) (cond (bytes_eq word (codes "void")) (Ok Void) (cond (bytes_eq word (codes "failed")) (Ok Failed) (cond (bytes_eq word (codes "undoing")) (Ok Undoing) (cond (bytes_eq word (codes "undone")) (Ok Undone) (cond (bytes_eq word (codes "fixed")) (Ok Fixed) (Err BadType)))))))
    (known (bytes_eq word (codes "committed")) Committed (cond (bytes_eq word (codes "void")) (Ok Void) (cond (bytes_eq word (codes "failed")) (Ok Failed) (cond (bytes_eq word (codes "undoing")) (Ok Undoing) (cond (bytes_eq word (codes "undone")) (Ok Undone) (cond (bytes_eq word (codes "fixed")) (Ok Fixed) (Err BadType))))))
    (known (bytes_eq word (codes "void")) Void (cond (bytes_eq word (codes "failed")) (Ok Failed) (cond (bytes_eq word (codes "undoing")) (Ok Undoing) (cond (bytes_eq word (codes "undone")) (Ok Undone) (cond (bytes_eq word (codes "fixed")) (Ok Fixed) (Err BadType)))))
    (known (bytes_eq word (codes "failed")) Failed (cond (bytes_eq word (codes "undoing")) (Ok Undoing) (cond (bytes_eq word (codes "undone")) (Ok Undone) (cond (bytes_eq word (codes "fixed")) (Ok Fixed) (Err BadType))))
    (known (bytes_eq word (codes "undoing")) Undoing (cond (bytes_eq word (codes "undone")) (Ok Undone) (cond (bytes_eq word (codes "fixed")) (Ok Fixed) (Err BadType)))
    (known (bytes_eq word (codes "undone")) Undone (cond (bytes_eq word (codes "fixed")) (Ok Fixed) (Err BadType))
    (known (bytes_eq word (codes "fixed")) Fixed (Err BadType)
    (tt {0}))))))))

state_of-stays : (value : Data) → StaysInValue (state_of value)
state_of-stays (string word) = state_named-stays word
state_of-stays _ = tt {0}

flag_in-stays : (value : Option Data) → StaysInValue (flag_in value)
flag_in-stays None = tt {0}
flag_in-stays (Some (boolean b)) = tt {0}
flag_in-stays _ = tt {0}

case_parts_of-stays : (value : Data) → StaysInValue (case_parts_of value)
unfolding case_parts_of
case_parts_of-stays value =
    let must = codes "states" ∷ [] in
    let may = codes "aborted" ∷ [] in
    then OfValue (keys_fit must may value) _ (keys_fit-stays must may value) (λ u.
    then OfValue (at_key (list_of_each state_of) (codes "states") value) _ (at_key-stays (list_of_each state_of) (codes "states") value (λ found. list_of_each-stays state_of found state_of-stays)) (λ states.
    then OfValue (flag_in (get (codes "aborted") value)) _ (flag_in-stays (get (codes "aborted") value)) (λ aborted. tt {0})))

written_of-stays : (value : Data) → StaysInValue (written_of value)
written_of-stays value = either {A = Written} OfValue (is_object value) (case_parts_of value) (Err Kind) (case_parts_of-stays value) (tt {0})

-- a fault of what is written is the text's
pub reads_case_fault : (definition : Contents) (text : List ℕ) (value : Data) (fault : JsonFault) → IsTextOf value text → Fails fault (written_of value) → ReadsCase definition text (Err fault)
reads_case_fault definition text value OutOfMemory is given = tt {0}
reads_case_fault definition text value NotJson is given = absurd (rw given at (written_of-stays value))
reads_case_fault definition text value WrongLength is given = absurd (rw given at (written_of-stays value))
reads_case_fault definition text value (Busy step) is given = absurd (rw given at (written_of-stays value))
reads_case_fault definition text value fault is given = (value, is, given)

-- the case of what is written is the text's
pub reads_case_made : (definition : Contents) (text : List ℕ) (w : Written) (made : Result Situation JsonFault) → HoldsCase text (Ok w)
    → IfOk made (λ c. (c ≡ situation definition w.states w.aborted) × HasStates definition w.states) → IfErr made (IsCaseFault definition w.states) → ReadsCase definition text made
reads_case_made definition text w (Ok c) held made fault = rw made.0 (held, refl, made.1)
reads_case_made definition text w (Err WrongLength) held made fault = (w, held, fault)
reads_case_made definition text w (Err (Busy step)) held made fault = (w, held, fault.0, fault.1)
reads_case_made definition text w (Err other) held made fault = absurd fault
