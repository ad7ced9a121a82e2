-- The places of a history, one event more, and sagas by their numbers.
use Rattle.std.proofs.Common.{◌≡◌, ℕ, suc, ◌+◌, ◌*◌, ◌%◌, ◌<◌, Bool, true, false, ◌||◌, List, [], ◌∷◌, ◌++◌, Some, None, length, take, drop, get_or, eqb, refl, sym, ap, ◌∙◌, subst, inl, inr, arith}
use Rattle.std.specs.Prelude.{slice_get, slice_index}
use Rattle.std.proofs.lemmas.Bool.{cases_Bool, cases_lt, cases_order, ne_eqb, eqb-true, false_from_ne_true}
use Rattle.std.proofs.lemmas.Nat.{mod-mul-add}
use Rattle.std.proofs.lemmas.List.{take_more, take-append-drop, take-take}
use Rattle.std.proofs.lemmas.Option.{slice_get-get_or, slice_get_past}
use Rattle.saga_def.specs.Contents.{Contents}
use Rattle.saga_history.specs.declared.events.Event.{Event}
use Rattle.saga_history.specs.Changes.{Change, opens, saga_of, change_of, past, changes}
use Rattle.saga_history.specs.States.{state}
use Rattle.saga_history.specs.Turns.{opened_with, in_goal}
use Rattle.saga_history.specs.Rules.{HasPhase, definition, IsAllowed, IsLegal}
use Rattle.saga_history.specs.Merges.{names_saga, is_opening, opened_sagas, IsNumbered}
use Rattle.saga_history.specs.Parts.{EachWasAllowed, HasOneFirst, HasNoFirst, GrowsByAllowed, LeavesOtherSagas, NumberedApart}
use Rattle.saga_history.proofs.SagaLemmas.{changes_own, changes_other, saga_is_legal, unopened}
use Rattle.saga_history.proofs.MergeLemmas.{or_parts, past_push, past_append, each_below, legal_push, changes_push_other, changes_first}

-- a place at which an event stands
pub below_length : {A : Type 0} (xs : List A) (k : ℕ) (x : A) → slice_get xs k ≡ Some x → k < length xs
below_length xs k x here = elim (cases_lt k (length xs)) [
  | inl lt ↦ lt
  | inr past_end ↦ let bad : None ≡ Some x = sym (slice_get_past xs k past_end) ∙ here in cc
]

pub item_at : {A : Type 0} (xs : List A) (k : ℕ) (x : A) → slice_get xs k ≡ Some x → get_or xs k x ≡ x
item_at xs k x here = let e = slice_get-get_or xs k x (below_length xs k x here) in cc

-- one event more of a history
pub past_more : (events : List Event) (k : ℕ) (e : Event) → slice_get events k ≡ Some e → past (take (k + 1) events) ≡ e ∷ past (take k events)
past_more events k e here =
    ap past (take_more events k e (below_length events k e here) ∙ ap (λ (x : Event). take k events ++ x ∷ []) (item_at events k e here)) ∙ past_push (take k events) e

pub legal_below : (shelf : List Contents) (events : List Event) (k : ℕ) → IsLegal shelf (past events) → IsLegal shelf (past (take k events))
legal_below shelf events k legal =
    let split : past events ≡ past (drop k events) ++ past (take k events) =
    ap past (sym (take-append-drop k events)) ∙ past_append (take k events) (drop k events) in
    each_below _ (past (drop k events)) (past (take k events)) (subst (IsLegal shelf) split legal)

pub each_was_allowed : (shelf : List Contents) (events : List Event) → IsLegal shelf (past events) → EachWasAllowed shelf events
each_was_allowed shelf events legal = λ place event here.
    let both : IsLegal shelf (event ∷ past (take place events)) = subst (IsLegal shelf) (past_more events place event here) (legal_below shelf events (place + 1) legal) in
    record { allowed = both.0; before = both.1 }

-- of a legal beginning each event was allowed
allowed_below : (shelf : List Contents) (events : List Event) (p q : ℕ) (e : Event) → p < q → slice_get events p ≡ Some e → IsLegal shelf (past (take q events)) → IsAllowed shelf (past (take p events)) e
allowed_below shelf events p q e below here legal =
    let shorter : IsLegal shelf (past (take (p + 1) (take q events))) = legal_below shelf (take q events) (p + 1) legal in
    let same : take (p + 1) (take q events) ≡ take (p + 1) events = take-take (p + 1) q events (omega (arith, below)) in
    let grown : past (take (p + 1) (take q events)) ≡ e ∷ past (take p events) = ap past same ∙ past_more events p e here in
    let both : IsLegal shelf (e ∷ past (take p events)) = subst (IsLegal shelf) grown shorter in
    both.0

pub has_one_first : (shelf : List Contents) (events : List Event) → HasOneFirst shelf events
has_one_first shelf events = λ p q first other. elim (cases_order p q) [
  | inl same ↦ same
  | inr (inl below) ↦ absurd (first.refused (allowed_below shelf events p q first.event below first.here other.before))
  | inr (inr below) ↦ absurd (other.refused (allowed_below shelf events q p other.event below other.here first.before))
]

pub has_no_first : (shelf : List Contents) (events : List Event) → HasNoFirst shelf events
has_no_first shelf events = λ legal p first. let was = each_was_allowed shelf events legal p first.event first.here in first.refused was.allowed

pub grows_by_allowed : (shelf : List Contents) (events : List Event) → GrowsByAllowed shelf events
grows_by_allowed shelf events = λ e legal allowed. legal_push shelf events e legal allowed

pub leaves_other_sagas : (shelf : List Contents) (events : List Event) → LeavesOtherSagas shelf events
leaves_other_sagas shelf events = λ e i apart.
    let same = changes_push_other i events e (ne_eqb i (saga_of e) apart) in
    record {
      states = λ s. ap (λ (l : List Change). state l s) same;
      goal = λ s. ap (λ (l : List Change). in_goal l s) same;
      phase = λ d p was. subst (λ (l : List Change). HasPhase d l p) (sym same) was;
      definition = ap (λ (l : List Change). definition shelf l) same;
    }

-- ---- sagas by their numbers
abbrev among : ℕ → List ℕ → Bool
among i [] = false
among i (x ∷ xs) = eqb i x || among i xs

opened_append : (l m : List Change) → opened_with l ≡ None → opened_with m ≡ None → opened_with (l ++ m) ≡ None
opened_append [] m p q = q
opened_append (opens k ∷ l) m p q = cc
opened_append (_ ∷ l) m p q = opened_append l m p q

not_opening : (c : Change) → is_opening c ≡ false → opened_with (c ∷ []) ≡ None
not_opening (opens k) e = cc
not_opening _ e = refl

-- a saga that is not among those that a history opens is not opened in it
not_opened : (i : ℕ) (h : List Event) → among i (opened_sagas h) ≡ false → opened_with (changes i (past h)) ≡ None
not_opened i [] none = refl
not_opened i (e ∷ h) none = elim (cases_Bool (is_opening (change_of e))) [
  | inl opening ↦
      let both : (eqb i (saga_of e) || among i (opened_sagas h)) ≡ false = rw opening at none in
      let parts = or_parts (eqb i (saga_of e)) (among i (opened_sagas h)) both in
      ap opened_with (changes_first i e h) ∙ opened_append (changes i (past h)) (changes i (e ∷ [])) (not_opened i h parts.1) (ap opened_with (changes_other i e [] parts.0))
  | inr other ↦
      let rest : among i (opened_sagas h) ≡ false = rw other at none in
      ap opened_with (changes_first i e h) ∙ opened_append (changes i (past h)) (changes i (e ∷ [])) (not_opened i h rest) (elim (cases_Bool (eqb i (saga_of e))) [
        | inl own ↦ ap opened_with (changes_own i e [] own) ∙ not_opening (change_of e) other
        | inr away ↦ ap opened_with (changes_other i e [] away)
      ])
]

not_empty : {A : Type 0} (l : List A) (x : A) → l ++ x ∷ [] ≡ [] → ⊥
not_empty [] x e = cc
not_empty (y ∷ l) x e = cc

append_empty : {A : Type 0} (l m : List A) → l ++ m ≡ [] → l ≡ []
append_empty [] m e = refl
append_empty (x ∷ l) m e = cc

-- a saga that a history names has changes there
named_changes : (i : ℕ) (h : List Event) → names_saga i h ≡ true → changes i (past h) ≡ [] → ⊥
named_changes i [] named none = cc
named_changes i (e ∷ h) named none = elim (cases_Bool (eqb i (saga_of e))) [
  | inl own ↦ not_empty (changes i (past h)) (change_of e) (ap (λ (l : List Change). changes i (past h) ++ l) (sym (changes_own i e [] own)) ∙ sym (changes_first i e h) ∙ none)
  | inr other ↦ named_changes i h (rw other at named) (append_empty (changes i (past h)) (changes i (e ∷ [])) (sym (changes_first i e h) ∙ none))
]

-- each saga that a legal history names was opened in it
pub named_among : (shelf : List Contents) (i : ℕ) (h : List Event) → IsLegal shelf (past h) → names_saga i h ≡ true → among i (opened_sagas h) ≡ true
named_among shelf i h legal named = elim (cases_Bool (among i (opened_sagas h))) [
  | inl among_them ↦ among_them
  | inr absent ↦ absurd (named_changes i h named (unopened shelf (changes i (past h)) (saga_is_legal shelf i (past h) legal) (not_opened i h absent)))
]

-- where a number stands that is among others
placed : (i : ℕ) (xs : List ℕ) → among i xs ≡ true → (k : ℕ) × (k < length xs) × (slice_index xs k ≡ i)
placed i [] found = cc
placed i (x ∷ xs) found = elim (cases_Bool (eqb i x)) [
  | inl own ↦ (0, omega arith, sym (eqb-true i x own))
  | inr other ↦
      let rest : among i xs ≡ true = rw other at found in
      let r = placed i xs rest in
      (suc r.0, omega (arith, r.1), r.2)
]

-- the number of a saga tells the first number of its history
first_of : (first stride : ℕ) (h : List Event) (i : ℕ) → first < stride → IsNumbered first stride h → among i (opened_sagas h) ≡ true → i % stride ≡ first
first_of first stride h i lt numbered found =
    let p = placed i (opened_sagas h) found in
    let is : i ≡ p.0 * stride + first = omega (arith, p.2, numbered p.0 p.1) in
    ap (λ (v : ℕ). v % stride) is ∙ mod-mul-add p.0 stride first lt

pub numbered_apart : (shelf : List Contents) (a b : List Event) → NumberedApart shelf a b
numbered_apart shelf a b = λ first other stride lt below apart of_a of_b num_a num_b i named.
    false_from_ne_true (names_saga i b) (λ too. apart (sym (first_of first stride a i lt num_a (named_among shelf i a of_a named)) ∙ first_of other stride b i below num_b (named_among shelf i b of_b too)))
