-- Phases and lists of sagas, one place after another.
use Rattle.std.proofs.Common.{◌≡◌, ◌∙◌, ◌+◌, ◌-◌, ◌<◌, ◌≤◌, ◌++◌, ◌∷◌, [], ℕ, List, Option, Bool, true, false, refl, sym, ap, subst, arith, inl, inr, length, get_or, length-append, append-nil}
use Rattle.std.proofs.Math.Seq.{get_or-append_right}
use Rattle.std.proofs.Math.ListN.{get_or-append}
use Rattle.std.proofs.lemmas.Bool.{cases_lt}
use Rattle.saga_history.specs.declared.tasks.Phase.{Phase}
use Rattle.saga_core.specs.Book.{Book, number}
use Rattle.saga_core.specs.Tasks.{StandsAt}
use Rattle.saga_views.specs.Lists.{is_told_at, text_at, text_if, told_up_to}
use Rattle.saga_views.specs.Phases.{AreFirstPhases}
use Rattle.saga_views.specs.Limits.{most_sagas}
use Rattle.saga_views.proofs.RangeLemmas.{flat_more}

pub told_more : (book : Book) (from : ℕ) (wanted : Option Phase) (phases : List Phase) (k : ℕ)
    → told_up_to book from wanted phases k ++ text_if (is_told_at book from wanted phases k) (text_at book phases k) ≡ told_up_to book from wanted phases (k + 1)
told_more book from wanted phases k = flat_more (λ k. text_if (is_told_at book from wanted phases k) (text_at book phases k)) [] k

-- there were fewer where one is added
pub few_more : (told : Bool) (text : List ℕ) (old new : List (List ℕ)) → new ≡ old ++ text_if told text → length old ≤ most_sagas
    → (told ≡ true → length old < most_sagas) → length new ≤ most_sagas
few_more true text old new is few less = subst (λ (ts : List (List ℕ)). length ts ≤ most_sagas) (sym is)
    (let lt = less refl in omega (arith, lt, length-append old (text ∷ [])))
few_more false text old new is few less = subst (λ (ts : List (List ℕ)). length ts ≤ most_sagas) (sym (is ∙ append-nil old)) few

-- one phase more
pub phase_more : (book : Book) (k : ℕ) (phases : List Phase) (p : Phase) → AreFirstPhases book k phases
    → StandsAt book (number book.first book.stride k) p → AreFirstPhases book (k + 1) (phases ++ p ∷ [])
phase_more book k phases p first here = record {
  sized = length-append phases (p ∷ []) ∙ ap (λ (n : ℕ). n + 1) first.sized;
  each = λ j q lt. elim (cases_lt j k) [
    | inl less ↦ subst (λ (r : Phase). StandsAt book (number book.first book.stride j) r)
        (sym (get_or-append phases (p ∷ []) q j (omega (arith, less, first.sized)))) (first.each j q less)
    | inr more ↦
        let same : j ≡ k = omega (arith, lt, more) in
        let at : get_or (phases ++ p ∷ []) j q ≡ p = get_or-append_right phases (p ∷ []) j q (omega (arith, more, first.sized)) ∙ last (j - length phases) p q (omega (arith, same, first.sized)) in
        subst (λ (r : Phase). StandsAt book (number book.first book.stride j) r) (sym at)
        (subst (λ (i : ℕ). StandsAt book (number book.first book.stride i) p) (sym same) here)
  ];
}
  where
    last : (n : ℕ) (p q : Phase) → n ≡ 0 → get_or (p ∷ []) n q ≡ p
    last n p q none = ap (λ (n : ℕ). get_or (p ∷ []) n q) none
