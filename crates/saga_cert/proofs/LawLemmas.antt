-- A text has one reading.
use Rattle.std.proofs.Common.{ℕ, ◌≡◌, ◌≢◌, ◌∙◌, ◌⊎◌, inl, inr, List, length, Some, Result, Ok, Err, refl, sym, ap, subst, arith}
use Rattle.std.proofs.lemmas.Bool.{cases_lt}
use Rattle.serde_json.specs.Data.{Data}
use Rattle.saga_def.specs.Contents.{Contents}
use Rattle.saga_case.specs.declared.answers.Answer.{Answer}
use Rattle.saga_case.specs.declared.states.StepState.{StepState}
use Rattle.saga_case.specs.declared.states.StepState.TheVariants.{Waiting}
use Rattle.saga_case.specs.Situation.{Situation, situation, HasStates, IsFirstBusy}
use Rattle.saga_json.specs.declared.faults.JsonFault.{JsonFault}
use Rattle.saga_json.specs.declared.faults.JsonFault.TheVariants.{NotJson, WrongLength, Busy, OutOfMemory}
use Rattle.saga_json.specs.Texts.{IsTextOf}
use Rattle.saga_cert.specs.Answers.{answer_of}
use Rattle.saga_cert.specs.Cases.{Written, written_of}
use Rattle.saga_cert.specs.Laws.{HasOneAnswer, HasOneCase}
use Rattle.saga_cert.specs.Reads.{HoldsAnswer, ReadsAnswer, HoldsCase, ReadsCase}

-- ---- a text has one value

some_same : (value other : Data) → Some value ≡ Some other → value ≡ other
some_same value other e = cc

one_value : (text : List ℕ) (value other : Data) → IsTextOf value text → IsTextOf other text → value ≡ other
one_value text value other is was = some_same value other (sym is.json ∙ was.json)

abbrev HasNoValue : List ℕ → Type 0
HasNoValue text = (value : Data) → IsTextOf value text → ⊥

-- ---- answers

answer_once : (text : List ℕ) (a b : Result Answer JsonFault) → HoldsAnswer text a → HoldsAnswer text b → a ≡ b
answer_once text a b (value, is, gives) (other, was, gave) = sym gives ∙ ap answer_of (one_value text value other is was) ∙ gave

abbrev AnswerSort : List ℕ → Result Answer JsonFault → Type 0
AnswerSort text a = (HasNoValue text × (a ≡ Err NotJson)) ⊎ HoldsAnswer text a

answer_sort : (text : List ℕ) (a : Result Answer JsonFault) → a ≢ Err OutOfMemory → ReadsAnswer text a → AnswerSort text a
answer_sort text (Ok answer) told held = inr held
answer_sort text (Err NotJson) told none = inl (none, refl)
answer_sort text (Err OutOfMemory) told held = absurd (told refl)
answer_sort text (Err WrongLength) told never = absurd never
answer_sort text (Err (Busy step)) told never = absurd never
answer_sort text (Err fault) told held = inr held

answers_agree : (text : List ℕ) (a b : Result Answer JsonFault) → AnswerSort text a → AnswerSort text b → a ≡ b
answers_agree text a b (inl (none, is)) (inl (never, was)) = is ∙ sym was
answers_agree text a b (inl (none, is)) (inr held) = absurd (none held.0 held.1)
answers_agree text a b (inr held) (inl (none, was)) = absurd (none held.0 held.1)
answers_agree text a b (inr held) (inr other) = answer_once text a b held other

pub has_one_answer : (text : List ℕ) → HasOneAnswer text
has_one_answer text a b told_a told_b reads_a reads_b = answers_agree text a b (answer_sort text a told_a reads_a) (answer_sort text b told_b reads_b)

-- ---- cases

written_once : (text : List ℕ) (a b : Result Written JsonFault) → HoldsCase text a → HoldsCase text b → a ≡ b
written_once text a b (value, is, gives) (other, was, gave) = sym gives ∙ ap written_of (one_value text value other is was) ∙ gave

abbrev ok : Written → Result Written JsonFault
ok w = Ok w

abbrev err : JsonFault → Result Written JsonFault
err fault = Err fault

ok_same : (w v : Written) → ok w ≡ ok v → w ≡ v
ok_same w v e = cc

err_same : (e f : JsonFault) → err e ≡ err f → e ≡ f
err_same e f is = cc

ok_is_err : (w : Written) (fault : JsonFault) → ok w ≡ err fault → ⊥
ok_is_err w fault e = cc

-- what states that were written come to: a case, another number of states, or a busy step
abbrev IsCase : Contents → Written → Result Situation JsonFault → Type 0
IsCase definition w a = HasStates definition w.states × (a ≡ Ok (situation definition w.states w.aborted))

abbrev IsOfWrongLength : Contents → Written → Result Situation JsonFault → Type 0
IsOfWrongLength definition w a = (length w.states ≢ length definition.steps) × (a ≡ Err WrongLength)

record IsBusyAt (definition : Contents) (w : Written) (a : Result Situation JsonFault) : Type 0 where
  step : ℕ
  paired : length w.states ≡ length definition.steps
  first : IsFirstBusy w.states step
  same : a ≡ Err (Busy step)

abbrev ComesTo : Contents → Written → Result Situation JsonFault → Type 0
ComesTo definition w a = IsCase definition w a ⊎ (IsOfWrongLength definition w a ⊎ IsBusyAt definition w a)

first_once : (states : List StepState) (i j : ℕ) → IsFirstBusy states i → IsFirstBusy states j → i ≡ j
first_once states i j one other =
    elim (cases_lt i j) [
      | inl less ↦ absurd (other.first i less one.busy)
      | inr rest ↦ elim (cases_lt j i) [
        | inl more ↦ absurd (one.first j more other.busy)
        | inr same ↦ omega arith
      ]
    ]

busy_in_a_case : (definition : Contents) (w : Written) (a b : Result Situation JsonFault) → IsCase definition w a → IsBusyAt definition w b → ⊥
busy_in_a_case definition w a b one busy = one.0.drained busy.step Waiting busy.first.within busy.first.busy

come_to_one : (definition : Contents) (w : Written) (a b : Result Situation JsonFault) → ComesTo definition w a → ComesTo definition w b → a ≡ b
come_to_one definition w a b (inl one) (inl other) = one.1 ∙ sym other.1
come_to_one definition w a b (inl one) (inr (inl wrong)) = absurd (wrong.0 one.0.paired)
come_to_one definition w a b (inl one) (inr (inr busy)) = absurd (busy_in_a_case definition w a b one busy)
come_to_one definition w a b (inr (inl wrong)) (inl one) = absurd (wrong.0 one.0.paired)
come_to_one definition w a b (inr (inl wrong)) (inr (inl other)) = wrong.1 ∙ sym other.1
come_to_one definition w a b (inr (inl wrong)) (inr (inr busy)) = absurd (wrong.0 busy.paired)
come_to_one definition w a b (inr (inr busy)) (inl one) = absurd (busy_in_a_case definition w b a one busy)
come_to_one definition w a b (inr (inr busy)) (inr (inl wrong)) = absurd (wrong.0 busy.paired)
come_to_one definition w a b (inr (inr busy)) (inr (inr other)) =
    busy.same ∙ ap (λ (step : ℕ). Err (Busy step)) (first_once w.states busy.step other.step busy.first other.first) ∙ sym other.same

-- the sorts of answers: no value, no case's value, states
record IsMisshapen (text : List ℕ) (a : Result Situation JsonFault) : Type 0 where
  fault : JsonFault
  held : HoldsCase text (Err fault)
  same : a ≡ Err fault

record IsWritten (definition : Contents) (text : List ℕ) (a : Result Situation JsonFault) : Type 0 where
  written : Written
  held : HoldsCase text (Ok written)
  comes : ComesTo definition written a

abbrev CaseSort : Contents → List ℕ → Result Situation JsonFault → Type 0
CaseSort definition text a = (HasNoValue text × (a ≡ Err NotJson)) ⊎ (IsMisshapen text a ⊎ IsWritten definition text a)

misshapen : (definition : Contents) (text : List ℕ) (fault : JsonFault) → HoldsCase text (Err fault) → CaseSort definition text (Err fault)
misshapen definition text fault held = inr (inl (record { fault = fault; held = held; same = refl }))

read_as : (definition : Contents) (text : List ℕ) (w : Written) (a : Result Situation JsonFault) → HoldsCase text (Ok w) → ComesTo definition w a → CaseSort definition text a
read_as definition text w a held comes = inr (inr (record { written = w; held = held; comes = comes }))

case_sort : (definition : Contents) (text : List ℕ) (a : Result Situation JsonFault) → a ≢ Err OutOfMemory → ReadsCase definition text a → CaseSort definition text a
case_sort definition text (Ok c) told (held, same, states) =
    read_as definition text (record { states = c.states; aborted = c.aborted }) (Ok c) held
    (inl (states, ap (λ (d : Contents). Ok (situation d c.states c.aborted)) same))
case_sort definition text (Err NotJson) told none = inl (none, refl)
case_sort definition text (Err WrongLength) told (w, held, apart) = read_as definition text w _ held (inr (inl (apart, refl)))
case_sort definition text (Err (Busy step)) told (w, held, paired, first) =
    read_as definition text w _ held (inr (inr (record { step = step; paired = paired; first = first; same = refl })))
case_sort definition text (Err OutOfMemory) told held = absurd (told refl)
case_sort definition text (Err fault) told held = misshapen definition text fault held

cases_agree : (definition : Contents) (text : List ℕ) (a b : Result Situation JsonFault) → CaseSort definition text a → CaseSort definition text b → a ≡ b
cases_agree definition text a b (inl (none, is)) (inl (never, was)) = is ∙ sym was
cases_agree definition text a b (inl (none, is)) (inr (inl odd)) = absurd (none odd.held.0 odd.held.1)
cases_agree definition text a b (inl (none, is)) (inr (inr is_read)) = absurd (none is_read.held.0 is_read.held.1)
cases_agree definition text a b (inr (inl odd)) (inl (none, was)) = absurd (none odd.held.0 odd.held.1)
cases_agree definition text a b (inr (inl odd)) (inr (inl other)) =
    odd.same ∙ ap (λ (fault : JsonFault). Err fault) (err_same _ _ (written_once text _ _ odd.held other.held)) ∙ sym other.same
cases_agree definition text a b (inr (inl odd)) (inr (inr is_read)) = absurd (ok_is_err _ _ (written_once text _ _ is_read.held odd.held))
cases_agree definition text a b (inr (inr is_read)) (inl (none, was)) = absurd (none is_read.held.0 is_read.held.1)
cases_agree definition text a b (inr (inr is_read)) (inr (inl odd)) = absurd (ok_is_err _ _ (written_once text _ _ is_read.held odd.held))
cases_agree definition text a b (inr (inr is_read)) (inr (inr other)) =
    let same : is_read.written ≡ other.written = ok_same _ _ (written_once text _ _ is_read.held other.held) in
    come_to_one definition other.written a b (subst (λ (w : Written). ComesTo definition w a) same is_read.comes) other.comes

pub has_one_case : (definition : Contents) (text : List ℕ) → HasOneCase definition text
has_one_case definition text a b told_a told_b reads_a reads_b =
    cases_agree definition text a b (case_sort definition text a told_a reads_a) (case_sort definition text b told_b reads_b)
