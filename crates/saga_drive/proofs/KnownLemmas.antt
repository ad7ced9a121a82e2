-- What holds of a saga of a book; a saga to which something happened was opened.
use Rattle.std.proofs.Common.{◌≡◌, ◌∙◌, ◌<◌, ◌≤◌, ◌↔◌, ℕ, List, ◌∷◌, Option, Some, None, IsSomeAnd, IsTrue, ap, false, inl, inr, subst, refl, sym, true}
use Rattle.std.proofs.lemmas.Bool.{cases_lt, eq-eqb}
use Rattle.saga_def.specs.Contents.{Contents}
use Rattle.saga_history.specs.declared.events.Event.{Event}
use Rattle.saga_history.specs.declared.transitions.Transition.{Transition}
use Rattle.saga_history.specs.declared.transitions.Transition.TheVariants.{StartRun, Commit, Void, Missed, Fail, StartUndo, Undone, UndoMissed, UndoFail}
use Rattle.saga_history.specs.Changes.{Change, opens, moves, starts_plan, drops_plan, adopts, aborts, change_of, changes, past, saga_of, step_event}
use Rattle.saga_history.specs.Rules.{IsAllowedChange, SagaMay, definition_at}
use Rattle.saga_history.specs.Turns.{opened_with}
use Rattle.saga_history.proofs.MergeLemmas.{past_push}
use Rattle.saga_history.proofs.SagaLemmas.{changes_own}
use Rattle.saga_core.specs.Book.{Allows, Book, changes_in, definition_in, with_event}
use Rattle.saga_core.specs.Refusals.{IsUnknown, OfSaga}
use Rattle.saga_core.specs.Saga.{HasSaga, Saga}

-- ---- what holds of a saga

pub weaker : (b : Book) (i : ℕ) (P Q : Contents → List Change → Type 0) → ((d : Contents) (l : List Change) → P d l → Q d l) → OfSaga b i P → OfSaga b i Q
weaker b i P Q into = by (definition_in b i)
  where
    by : (o : Option Contents) → IsSomeAnd o (λ d. P d (changes_in b i)) → IsSomeAnd o (λ d. Q d (changes_in b i))
    by None none = none
    by (Some d) holds = into d (changes_in b i) holds

pub apart : (b : Book) (i : ℕ) (P Q : Contents → List Change → Type 0) → ((d : Contents) (l : List Change) → P d l → Q d l → ⊥)
    → OfSaga b i P → OfSaga b i Q → ⊥
apart b i P Q exclude = by (definition_in b i)
  where
    by : (o : Option Contents) → IsSomeAnd o (λ d. P d (changes_in b i)) → IsSomeAnd o (λ d. Q d (changes_in b i)) → ⊥
    by None p q = absurd p
    by (Some d) p q = exclude d (changes_in b i) p q

pub of_saga : (b : Book) (i : ℕ) (saga : Saga) (P : Contents → List Change → Type 0) → HasSaga b i saga → P saga.definition saga.changes → OfSaga b i P
of_saga b i saga P is holds =
    subst (λ (o : Option Contents). IsSomeAnd o (λ d. P d (changes_in b i))) (sym is.defined) (subst (P saga.definition) is.changed holds)

pub in_saga : (b : Book) (i : ℕ) (saga : Saga) (P : Contents → List Change → Type 0) → HasSaga b i saga → OfSaga b i P → P saga.definition saga.changes
in_saga b i saga P is holds =
    subst (P saga.definition) (sym is.changed) (subst (λ (o : Option Contents). IsSomeAnd o (λ d. P d (changes_in b i))) is.defined holds)

none_defined : (shelf : List Contents) (o : Option ℕ) (P : Contents → Type 0) → IsSomeAnd (definition_at shelf o) P → o ≡ None → ⊥
none_defined shelf o P some none = subst (λ (k : Option ℕ). IsSomeAnd (definition_at shelf k) P) none some

pub unknown : (b : Book) (i : ℕ) (P : Contents → List Change → Type 0) → IsUnknown b i → OfSaga b i P → ⊥
unknown b i P none holds = none_defined b.shelf (opened_with (changes_in b i)) (λ d. P d (changes_in b i)) holds none

-- no step has that number
pub no_step : (s n : ℕ) → (IsTrue false ↔ (s < n)) → n ≤ s
no_step s n has = elim (cases_lt s n) [ inl less ↦ absurd (let no : false ≡ true = has.1 less in cc) | inr more ↦ more ]

-- ---- what happened to it

known_after : (shelf : List Contents) (l : List Change) (c : Change) → IsAllowedChange shelf l c → opened_with (c ∷ l) ≡ None → ⊥
known_after shelf l (opens k) may is = let no : ◌≡◌ {A = Option ℕ} (Some k) None = is in absurd cc
known_after shelf l (moves s t) may is = none_defined shelf (opened_with l) (λ d. SagaMay d l (moves s t)) may is
known_after shelf l starts_plan may is = none_defined shelf (opened_with l) (λ d. SagaMay d l starts_plan) may is
known_after shelf l drops_plan may is = none_defined shelf (opened_with l) (λ d. SagaMay d l drops_plan) may is
known_after shelf l (adopts a) may is = none_defined shelf (opened_with l) (λ d. SagaMay d l (adopts a)) may is
known_after shelf l aborts may is = none_defined shelf (opened_with l) (λ d. SagaMay d l aborts) may is

pub known : (b : Book) (e : Event) (i : ℕ) → saga_of e ≡ i → Allows b e → IsUnknown (with_event b e) i → ⊥
known b e i of may unknown =
    known_after b.shelf (changes_in b (saga_of e)) (change_of e) may
    (sym (ap opened_with (ap (changes (saga_of e)) (past_push b.history e) ∙ changes_own (saga_of e) e (past b.history) (eq-eqb (saga_of e) (saga_of e) refl)))
    ∙ subst (λ (j : ℕ). IsUnknown (with_event b e) j) (sym of) unknown)

pub saga_of-step_event : (i s : ℕ) (t : Transition) → saga_of (step_event i s t) ≡ i
saga_of-step_event i s StartRun = refl
saga_of-step_event i s Commit = refl
saga_of-step_event i s Void = refl
saga_of-step_event i s Missed = refl
saga_of-step_event i s Fail = refl
saga_of-step_event i s StartUndo = refl
saga_of-step_event i s Undone = refl
saga_of-step_event i s UndoMissed = refl
saga_of-step_event i s UndoFail = refl
