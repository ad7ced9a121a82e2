-- The values that are written: they hold no float, nest little, and are read back.
use Rattle.std.proofs.Common.{◌≡◌, ℕ, ◌<◌, ◌≤◌, Bool, true, false, List, [], ◌∷◌, length, map, nat_lt, Result, Ok, All, String, Global, IfOk, Some, string_bytes, refl, arith, lit≤}
use Rattle.std.specs.declared.alloc.AllocError.{AllocError}
use Rattle.std.proofs.lemmas.Bool.Decides.{nat_tests}
use Rattle.std.proofs.lemmas.List.Elements.{All-head, All-tail}
use Rattle.std.proofs.lemmas.Result.{IfOk-weaker}
use Rattle.std.proofs.lemmas.Str.{IsUtf8-string_bytes}
use Rattle.serde_json.specs.Data.{Data, number, unsigned, string, depth, items_depth}
use Rattle.serde_json.specs.Read.{read, max_depth}
use Rattle.serde_json.specs.Written.{compact_text, has_float, items_have_float}
use Rattle.serde_json.specs.View.{view}
use Rattle.serde_json.specs.declared.value.Value.{Value}
use Rattle.saga_def.specs.Contents.{Contents}
use Rattle.saga_case.specs.declared.answers.Plan.{Plan as PlanParts}
use Rattle.saga_case.specs.declared.answers.Answer.{Answer}
use Rattle.saga_case.specs.declared.answers.Answer.TheVariants.{Plan, Blocked}
use Rattle.saga_case.specs.declared.states.StepState.{StepState}
use Rattle.saga_case.specs.declared.states.StepState.TheVariants.{Waiting}
use Rattle.saga_case.specs.States.{word_of}
use Rattle.saga_case.specs.Situation.{Situation, situation, IsAtRest}
use Rattle.saga_json.specs.Reads.{each}
use Rattle.saga_json.specs.Trees.{list_of, items_from}
use Rattle.saga_json.specs.Texts.{IsTextOf}
use Rattle.saga_json.specs.Fields.{u16_of, u64_of}
use Rattle.saga_json.specs.Keys.{keys_fit}
use Rattle.saga_cert.specs.Kept.{kept_of, numbers_from}
use Rattle.saga_cert.specs.Answers.{plan_parts_of, plan_of, chain_of, answer_of, plan_form, chain_form, answer_form, IsPaired}
use Rattle.saga_cert.specs.Cases.{state_named, state_of, case_parts_of, written_of, case_form}
use Rattle.saga_cert.specs.Reads.{ReadsAnswer, ReadsCase}
use Rattle.saga_json.proofs.TreeLemmas.{list_of-items_from}
use Rattle.saga_cert.proofs.KeptLemmas.{is_kept-numbers, marks_of-numbers}

-- ---- lists

abbrev whole : ℕ → Data
whole n = number (unsigned n)

abbrev worded : StepState → Data
worded state = string (word_of state)

items_have_float-numbers : (ns : List ℕ) → items_have_float (items_from (map whole ns)) ≡ false
items_have_float-numbers [] = refl
items_have_float-numbers (n ∷ ns) = items_have_float-numbers ns

items_depth-numbers : (ns : List ℕ) → items_depth (items_from (map whole ns)) ≡ 0
items_depth-numbers [] = refl
items_depth-numbers (n ∷ ns) = rw (items_depth-numbers ns)

items_have_float-words : (states : List StepState) → items_have_float (items_from (map worded states)) ≡ false
items_have_float-words [] = refl
items_have_float-words (s ∷ states) = items_have_float-words states

items_depth-words : (states : List StepState) → items_depth (items_from (map worded states)) ≡ 0
items_depth-words [] = refl
items_depth-words (s ∷ states) = rw (items_depth-words states)

each-amounts : (ns : List ℕ) → each u64_of (map whole ns) ≡ Ok ns
each-amounts [] = refl
each-amounts (n ∷ ns) = rw (each-amounts ns)

amounts-read : (ns : List ℕ) → each u64_of (list_of (items_from (map whole ns))) ≡ Ok ns
amounts-read ns = rw (list_of-items_from (map whole ns)) (each-amounts ns)

small : (n : ℕ) → n < 65536 → nat_lt n 65536 ≡ true
small n h = grind (arith, nat_tests)

each-steps : (ns : List ℕ) → All (λ n. n < 65536) ns → each u16_of (map whole ns) ≡ Ok ns
each-steps [] h = refl
each-steps (n ∷ ns) h =
    let first = small n (All-head (λ s. s < 65536) n ns h) in
    let rest = each-steps ns (All-tail (λ s. s < 65536) n ns h) in
    rw (first, rest)

pub steps-read : (ns : List ℕ) → All (λ n. n < 65536) ns → each u16_of (list_of (items_from (map whole ns))) ≡ Ok ns
steps-read ns h = rw (list_of-items_from (map whole ns)) (each-steps ns h)

state_named-word : (s : StepState) → state_named (word_of s) ≡ Ok s
state_named-word Waiting = refl
state_named-word _ = refl

each-states : (states : List StepState) → each state_of (map worded states) ≡ Ok states
each-states [] = refl
each-states (s ∷ states) = rw (state_named-word s, each-states states)

states-read : (states : List StepState) → each state_of (list_of (items_from (map worded states))) ≡ Ok states
states-read states = rw (list_of-items_from (map worded states)) (each-states states)

-- ---- answers

pub has_float-answer : (answer : Answer) → has_float (answer_form answer) ≡ false
has_float-answer (Plan plan) =
    rw (items_have_float-numbers (numbers_from 0 plan.kept), items_have_float-numbers plan.leave, items_have_float-numbers plan.links, items_have_float-numbers plan.stand)
has_float-answer (Blocked chain) = rw (items_have_float-numbers chain)

pub depth-answer : (answer : Answer) → depth (answer_form answer) ≡ 2
depth-answer (Plan plan) =
    rw (items_depth-numbers (numbers_from 0 plan.kept), items_depth-numbers plan.leave, items_depth-numbers plan.links, items_depth-numbers plan.stand)
depth-answer (Blocked chain) = rw (items_depth-numbers chain)

kept-read : (marks : List Bool) (count : ℕ) → length marks ≡ count → kept_of count (numbers_from 0 marks) ≡ Ok marks
kept-read marks count same = rw (← same, is_kept-numbers marks, marks_of-numbers marks)

plan_parts-read : (plan : PlanParts) → length plan.kept ≡ length plan.stand → plan_parts_of (plan_form plan) ≡ Ok plan
unfolding plan_parts_of
plan_parts-read plan same =
    rw (amounts-read (numbers_from 0 plan.kept), amounts-read plan.leave, amounts-read plan.stand, amounts-read plan.links, kept-read plan.kept (length plan.stand) same)

plan-read : (plan : PlanParts) → length plan.kept ≡ length plan.stand → plan_of (plan_form plan) ≡ Ok plan
unfolding plan_of keys_fit
plan-read plan same = plan_parts-read plan same

-- the value of a plan is read back
pub answer_of-plan_form : (plan : PlanParts) → length plan.kept ≡ length plan.stand → answer_of (plan_form plan) ≡ Ok (Plan plan)
answer_of-plan_form plan same = rw (plan-read plan same)

chain-read : (chain : List ℕ) → All (λ n. n < 65536) chain → chain_of (chain_form chain) ≡ Ok chain
unfolding chain_of keys_fit
chain-read chain small = steps-read chain small

-- the value of a chain is read back
pub answer_of-chain_form : (chain : List ℕ) → All (λ n. n < 65536) chain → answer_of (chain_form chain) ≡ Ok (Blocked chain)
answer_of-chain_form chain small = rw (chain-read chain small)

-- ---- cases

pub has_float-case : (c : Situation) → has_float (case_form c) ≡ false
has_float-case c = float_at c.aborted
  where
    float_at : (aborted : Bool) → has_float (case_form (situation c.definition c.states aborted)) ≡ false
    float_at true = rw (items_have_float-words c.states)
    float_at false = rw (items_have_float-words c.states)

pub depth-case : (c : Situation) → depth (case_form c) ≤ max_depth
depth-case c = depth_at c.aborted
  where
    depth_at : (aborted : Bool) → depth (case_form (situation c.definition c.states aborted)) ≤ max_depth
    depth_at true = rw (items_depth-words c.states) (lit≤ tt)
    depth_at false = rw (items_depth-words c.states) (lit≤ tt)

case-read : (definition : Contents) (states : List StepState) (aborted : Bool) → written_of (case_form (situation definition states aborted)) ≡ Ok (record { states = states; aborted = aborted })
unfolding case_parts_of keys_fit
case-read definition states true = rw (states-read states)
case-read definition states false = rw (states-read states)

-- ---- texts

-- the text of a value without a float
pub compact : (text : Result (String Global) AllocError) (form : Data) → has_float form ≡ false
    → IfOk text (λ s. has_float form ≡ false → string_bytes s ≡ compact_text form) → IfOk text (λ s. string_bytes s ≡ compact_text form)
compact text form none = IfOk-weaker text _ _ (λ s h. h none)

-- the text is UTF-8, and of the value that was written
pub text_of : (text : Result (String Global) AllocError) (form : Data) → depth form ≤ max_depth
    → IfOk text (λ s. depth form ≤ max_depth → read (string_bytes s) ≡ Some form) → IfOk text (λ s. IsTextOf form (string_bytes s))
text_of text form shallow = IfOk-weaker text _ _ (λ s h. record { utf8 = IsUtf8-string_bytes s; json = h shallow })

-- the value of an answer is read back
pub value-read : (answer : Answer) (value : Result Value AllocError) → (IsPaired answer → answer_of (answer_form answer) ≡ Ok answer)
    → IfOk value (λ v. view v ≡ answer_form answer) → IfOk value (λ v. IsPaired answer → answer_of (view v) ≡ Ok answer)
value-read answer value back = IfOk-weaker value _ _ (λ v form paired. rw form (back paired))

-- the text of an answer is read back
pub answer_text-read : (text : Result (String Global) AllocError) (answer : Answer) → (IsPaired answer → answer_of (answer_form answer) ≡ Ok answer)
    → IfOk text (λ s. IsTextOf (answer_form answer) (string_bytes s)) → IfOk text (λ s. IsPaired answer → ReadsAnswer (string_bytes s) (Ok answer))
answer_text-read text answer back = IfOk-weaker text _ _ (λ s is paired. (answer_form answer, is, back paired))

-- the text of a case is read back
pub case_text-read : (text : Result (String Global) AllocError) (c : Situation) → IsAtRest c
    → IfOk text (λ s. IsTextOf (case_form c) (string_bytes s)) → IfOk text (λ s. ReadsCase c.definition (string_bytes s) (Ok c))
case_text-read text c rest = IfOk-weaker text _ _ (λ s is. ((case_form c, is, case-read c.definition c.states c.aborted), refl, rest.states))
