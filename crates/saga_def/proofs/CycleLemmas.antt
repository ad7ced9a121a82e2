-- A cycle passes no step twice, so it has few steps.
use Rattle.std.proofs.Common.{ℕ, ◌≡◌, ◌<◌, ◌+◌, ◌-◌, ◌∙◌, inl, inr, List, length, get_or, sym, subst, arith}
use Rattle.std.proofs.Math.Dec.{eqb}
use Rattle.std.specs.Prelude.{All}
use Rattle.std.proofs.lemmas.List.Elements.{All-contains}
use Rattle.std.proofs.lemmas.Bool.{cases_lt}
use Rattle.std.proofs.lemmas.Bool.Decides.{Decides-eqb}
use Rattle.std.proofs.lemmas.List.{get_or_default}
use Rattle.std.proofs.lemmas.Map.Made.{IsDistinct-from_AllPairs}
use Rattle.std.proofs.lemmas.Map.Steps.{length-le_from_distinct_below}
use Rattle.std.proofs.lemmas.Map.Views.{Contains-from_any}
use Rattle.saga_def.specs.declared.steps.Need.{Need}
use Rattle.saga_def.specs.Contents.{Contents}
use Rattle.saga_def.specs.Laws.{CyclesAreShort, CyclesRepeatNone}
use Rattle.saga_def.specs.Order.{IsCycle}
use Rattle.saga_def.specs.Rules.{AreKnown}
use Rattle.saga_def.proofs.OrderLemmas.{known_step}

pub cycles_repeat_none : (c : Contents) → CyclesRepeatNone c
cycles_repeat_none c steps cycle i j d less within same =
    let left : get_or steps i d ≡ get_or steps i 0 = get_or_default steps i d 0 (omega (arith, less, within)) in
    let right : get_or steps j d ≡ get_or steps j 0 = get_or_default steps j d 0 within in
    cycle.distinct i j less within (sym left ∙ same ∙ right)

-- each step of a cycle is one of the steps that there are
within_count : (needs : List Need) (count : ℕ) (steps : List ℕ) → AreKnown needs count → IsCycle needs steps → (k : ℕ) → k < length steps → get_or steps k 0 < count
within_count needs count steps known cycle k lt =
    elim (cases_lt (k + 1) (length steps)) [
      | inl before ↦ known_step needs count known _ _ (cycle.each k before)
      | inr end ↦
          let last : length steps - 1 ≡ k = omega (arith, lt) in
          subst (λ (m : ℕ). get_or steps m 0 < count) last (known_step needs count known _ _ cycle.closes)
    ]

all_within : (needs : List Need) (count : ℕ) (steps : List ℕ) → AreKnown needs count → IsCycle needs steps → All (λ s. s < count) steps
all_within needs count steps known cycle k d lt =
    let same : get_or steps k d ≡ get_or steps k 0 = get_or_default steps k d 0 lt in
    subst (λ (s : ℕ). s < count) (sym same) (within_count needs count steps known cycle k lt)

pub cycles_are_short : (c : Contents) → CyclesAreShort c
cycles_are_short c known steps cycle =
    length-le_from_distinct_below steps (length c.steps) (IsDistinct-from_AllPairs {eq = eqb} Decides-eqb steps (cycles_repeat_none c steps cycle))
    (λ q found.
    All-contains (λ s. s < length c.steps) steps q (all_within c.needs (length c.steps) steps known cycle) (Contains-from_any (λ x y is. (Decides-eqb x y).0 is) q steps found))
