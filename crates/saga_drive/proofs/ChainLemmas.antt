-- A chain of needs passes no step twice where no step precedes itself, so it has at most as many steps as there are.
use Rattle.std.proofs.Common.{ℕ, zero, suc, ◌≡◌, ◌<◌, ◌≤◌, ◌+◌, ◌-◌, ◌∙◌, List, length, get_or, ap, sym, subst, arith}
use Rattle.std.proofs.Math.Dec.{eqb}
use Rattle.std.specs.Prelude.{All}
use Rattle.std.proofs.lemmas.List.Elements.{All-contains}
use Rattle.std.proofs.lemmas.Bool.Decides.{Decides-eqb}
use Rattle.std.proofs.lemmas.List.{get_or_default}
use Rattle.std.proofs.lemmas.Map.Made.{IsDistinct-from_AllPairs}
use Rattle.std.proofs.lemmas.Map.Steps.{length-le_from_distinct_below}
use Rattle.std.proofs.lemmas.Map.Views.{Contains-from_any}
use Rattle.saga_def.specs.declared.steps.Need.{Need}
use Rattle.saga_def.specs.Order.{IsAcyclic, Leads, NeedsDirectly}

-- each step needs the next directly
abbrev AreLinked : List Need → List ℕ → Type 0
AreLinked needs chain = (k : ℕ) → k + 1 < length chain → NeedsDirectly needs (get_or chain k 0) (get_or chain (k + 1) 0)

leads_along : (needs : List Need) (chain : List ℕ) → AreLinked needs chain → (gap i : ℕ) → i + gap < length chain → Leads needs gap (get_or chain i 0) (get_or chain (i + gap) 0)
leads_along needs chain linked zero i lt =
    let same : i ≡ i + 0 = omega arith in
    ap (λ (k : ℕ). get_or chain k 0) same
leads_along needs chain linked (suc gap) i lt =
    let same : i + 1 + gap ≡ i + suc gap = omega arith in (
      get_or chain (i + 1) 0,
      linked i (omega (arith, lt)),
      subst (λ (k : ℕ). Leads needs gap (get_or chain (i + 1) 0) (get_or chain k 0)) same (leads_along needs chain linked gap (i + 1) (omega (arith, lt))),
    )

repeats_none : (needs : List Need) (chain : List ℕ) → IsAcyclic needs → AreLinked needs chain → (i j : ℕ) → i < j → j < length chain → get_or chain i 0 ≡ get_or chain j 0 → ⊥
repeats_none needs chain acyclic linked i j less within same =
    let there : i + suc (j - i - 1) ≡ j = omega (arith, less) in
    let ends : get_or chain (i + suc (j - i - 1)) 0 ≡ get_or chain i 0 = ap (λ (k : ℕ). get_or chain k 0) there ∙ sym same in
    let lt : i + suc (j - i - 1) < length chain = omega (arith, less, within) in
    acyclic.none (get_or chain i 0) (record {
      between = j - i - 1;
      chain = subst (λ (s : ℕ). Leads needs (suc (j - i - 1)) (get_or chain i 0) s) ends (leads_along needs chain linked (suc (j - i - 1)) i lt);
    })

pub chain_is_short : (needs : List Need) (count : ℕ) (chain : List ℕ) → IsAcyclic needs → AreLinked needs chain → All (λ s. s < count) chain → length chain ≤ count
chain_is_short needs count chain acyclic linked all =
    length-le_from_distinct_below chain count
    (IsDistinct-from_AllPairs {eq = eqb} Decides-eqb chain (λ i j d less within same.
    repeats_none needs chain acyclic linked i j less within
    (sym (get_or_default chain i d 0 (omega (arith, less, within))) ∙ same ∙ get_or_default chain j d 0 within)))
    (λ q found.
    All-contains (λ s. s < count) chain q all (Contains-from_any (λ x y is. (Decides-eqb x y).0 is) q chain found))
