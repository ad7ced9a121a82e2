-- From a history to what changes in each of its sagas.
use Rattle.std.proofs.Common.{Ok, Err, ◌↔◌, IsTrue, IfOk, Bool, Result, IsSomeAnd, ◌≡◌, ℕ, true, false, List, [], ◌∷◌, Option, Some, None, eqb, refl, sym, subst, inl, inr}
use Rattle.std.proofs.lemmas.Bool.{cases_Bool, eqb-true, eq-eqb}
use Rattle.saga_def.specs.Contents.{Contents}
use Rattle.saga_history.specs.declared.events.Event.{Event}
use Rattle.saga_history.specs.Changes.{Change, opens, moves, starts_plan, drops_plan, adopts, aborts, saga_of, change_of, changes}
use Rattle.saga_history.specs.Turns.{opened_with}
use Rattle.saga_history.specs.Rules.{SagaMay, definition_at, definition, IsAllowedChange, IsLegal, IsLegalSaga}

-- what comes of an event in the changes of a saga
pub changes_own : (i : ℕ) (e : Event) (h : List Event) → eqb i (saga_of e) ≡ true → changes i (e ∷ h) ≡ change_of e ∷ changes i h
changes_own i e h is = rw is refl

pub changes_other : (i : ℕ) (e : Event) (h : List Event) → eqb i (saga_of e) ≡ false → changes i (e ∷ h) ≡ changes i h
changes_other i e h is = rw is refl

-- each saga's changes in a legal history are as they were allowed
pub saga_is_legal : (shelf : List Contents) (i : ℕ) (h : List Event) → IsLegal shelf h → IsLegalSaga shelf (changes i h)
saga_is_legal shelf i [] legal = tt
saga_is_legal shelf i (e ∷ h) legal = elim (cases_Bool (eqb i (saga_of e))) [
  | inl own ↦
      let same : saga_of e ≡ i = sym (eqb-true i (saga_of e) own) in
      rw (changes_own i e h own) (subst (λ (j : ℕ). IsAllowedChange shelf (changes j h) (change_of e)) same legal.0, saga_is_legal shelf i h legal.1)
  | inr other ↦ rw (changes_other i e h other) (saga_is_legal shelf i h legal.1)
]

-- and a history is legal where those of each saga are
pub legal_from : (shelf : List Contents) (h : List Event) → ((i : ℕ) → IsLegalSaga shelf (changes i h)) → IsLegal shelf h
legal_from shelf [] lives = tt
legal_from shelf (e ∷ h) lives =
    let own : IsLegalSaga shelf (change_of e ∷ changes (saga_of e) h) = rw (changes_own (saga_of e) e h (eq-eqb (saga_of e) (saga_of e) refl)) at (lives (saga_of e)) in (
      own.0,
      legal_from shelf h (λ i. elim (cases_Bool (eqb i (saga_of e))) [
        | inl mine ↦ let l = lives i in let t : IsLegalSaga shelf (change_of e ∷ changes i h) = rw (changes_own i e h mine) at l in t.1
        | inr other ↦ let l = lives i in rw (changes_other i e h other) at l
      ]),
    )

-- the changes of a saga of one definition, each as the saga may; it begins with the opening
abbrev pub IsLegalUnder : Contents → List Change → Type 0
IsLegalUnder d [] = Unit {0}
IsLegalUnder d (opens k ∷ l) = l ≡ []
IsLegalUnder d (moves s m ∷ l) = SagaMay d l (moves s m) × IsLegalUnder d l
IsLegalUnder d (starts_plan ∷ l) = SagaMay d l starts_plan × IsLegalUnder d l
IsLegalUnder d (drops_plan ∷ l) = SagaMay d l drops_plan × IsLegalUnder d l
IsLegalUnder d (adopts a ∷ l) = SagaMay d l (adopts a) × IsLegalUnder d l
IsLegalUnder d (aborts ∷ l) = SagaMay d l aborts × IsLegalUnder d l

holds_none : (shelf : List Contents) (l : List Change) (P : Contents → Type 0) → opened_with l ≡ None → IsSomeAnd (definition shelf l) P → ⊥
holds_none shelf l P none holds = subst (λ o. IsSomeAnd (definition_at shelf o) P) none holds

-- it leaves the step is done in a saga that is not opened
pub unopened : (shelf : List Contents) (l : List Change) → IsLegalSaga shelf l → opened_with l ≡ None → l ≡ []
unopened shelf [] life none = refl
unopened shelf (opens k ∷ l) life none = cc
unopened shelf (_ ∷ l) life none = absurd (holds_none shelf l _ none life.0)

pub holds_at : (o : Option Contents) (d : Contents) (P : Contents → Type 0) → o ≡ Some d → IsSomeAnd o P → P d
holds_at o d P is holds = subst (λ v. IsSomeAnd v P) is holds

-- a saga's changes under the one definition that its opening names
pub legal_under : (shelf : List Contents) (d : Contents) (l : List Change) → IsLegalSaga shelf l → definition shelf l ≡ Some d → IsLegalUnder d l
legal_under shelf d [] life is = tt
legal_under shelf d (opens k ∷ l) life is = unopened shelf l life.1 life.0.0
legal_under shelf d (_ ∷ l) life is = (holds_at _ d _ is life.0, legal_under shelf d l life.1 is)

holds_both : (o : Option Contents) (d : Contents) (P : Contents → Type 0) → o ≡ Some d → IsSomeAnd o P ↔ P d
holds_both o d P is = (λ holds. holds_at o d P is holds, λ p. subst (λ v. IsSomeAnd v P) (sym is) p)

-- what is allowed in a saga of a known definition
pub allowed_known : (shelf : List Contents) (d : Contents) (l : List Change) (c : Change) → definition shelf l ≡ Some d → IsAllowedChange shelf l c ↔ SagaMay d l c
allowed_known shelf d l (opens k) is = (λ allowed. let bad : definition_at shelf None ≡ Some d = rw allowed.0 at is in cc, λ may. absurd may)
allowed_known shelf d l (moves s t) is = holds_both (definition shelf l) d (λ v. SagaMay v l (moves s t)) is
allowed_known shelf d l starts_plan is = holds_both (definition shelf l) d (λ v. SagaMay v l starts_plan) is
allowed_known shelf d l drops_plan is = holds_both (definition shelf l) d (λ v. SagaMay v l drops_plan) is
allowed_known shelf d l (adopts a) is = holds_both (definition shelf l) d (λ v. SagaMay v l (adopts a)) is
allowed_known shelf d l aborts is = holds_both (definition shelf l) d (λ v. SagaMay v l aborts) is

-- what is decided of the saga is decided of the event
pub decided_known : {E : Type 0} (shelf : List Contents) (d : Contents) (l : List Change) (c : Change) (r : Result Bool E) → definition shelf l ≡ Some d → IfOk r (λ may. IsTrue may ↔ SagaMay d l c) → IfOk r (λ allowed. IsTrue allowed ↔ IsAllowedChange shelf l c)
decided_known shelf d l c (Ok b) is may = let k = allowed_known shelf d l c is in (λ t. k.1 (may.0 t), λ allowed. may.1 (k.0 allowed))
decided_known shelf d l c (Err e) is may = tt
