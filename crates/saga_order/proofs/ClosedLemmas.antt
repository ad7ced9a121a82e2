-- Facts about closed sets.
use Rattle.std.proofs.Common.{ℕ, ◌≡◌, ◌<◌, ◌≤◌, ◌∙◌, List, suc, true, false, length, get_or, take, refl, sym, subst}
use Rattle.std.specs.Prelude.{IsTrue, All, Contains}
use Rattle.std.proofs.lemmas.List.Elements.{All-contains, Contains-get_or}
use Rattle.std.proofs.lemmas.Bool.{false≢true}
use Rattle.std.proofs.lemmas.List.{take_all}
use Rattle.saga_def.specs.declared.steps.Need.{Need}
use Rattle.saga_def.specs.Order.{NeedsDirectly, Steps, IsClosed}
use Rattle.saga_order.proofs.Chains.{precedes_direct, held_along}

-- a set that holds, with each step, what it needs directly is closed
pub closed_from_needs : (needs : List Need) (set : Steps) → All (λ (n : Need). IsTrue (set n.step) → IsTrue (set n.on)) needs → IsClosed needs set
closed_from_needs needs set each = record {
  holds = λ a b in_set before.
      held_along needs (λ s. IsTrue (set s))
      (λ c d here direct. All-contains (λ (n : Need). IsTrue (set n.step) → IsTrue (set n.on)) needs (record { step = c; on = d }) each direct here)
      (suc before.between) b a in_set before.chain;
}

-- and the other way round
pub closed_direct : (needs : List Need) (set : Steps) (b a : ℕ) → IsClosed needs set → NeedsDirectly needs b a → IsTrue (set b) → IsTrue (set a)
closed_direct needs set b a closed direct in_set = closed.holds a b in_set (precedes_direct needs b a direct)

-- what the search for a need that leads out of the set keeps, and finds
abbrev pub StaysIn : Steps → Need → Type 0
StaysIn set n = IsTrue (set n.step) → IsTrue (set n.on)

pub leads_out : (seen needs : List Need) (set : Steps) (i : ℕ) (d : Need) → seen ≡ needs → i < length seen → set (get_or seen i d).step ≡ true → set (get_or seen i d).on ≡ false → (IsTrue false → IsClosed needs set) × (IsClosed needs set → IsTrue false)
leads_out seen needs set i d is below in_set out = (
  (λ never. absurd (false≢true never)),
  (λ closed.
      let n : Need = get_or seen i d in
      let has : NeedsDirectly needs n.step n.on = subst (λ (l : List Need). Contains l n) is (Contains-get_or seen i d below) in
      sym out ∙ closed_direct needs set n.step n.on closed has in_set),
)

pub stays_in : (seen needs : List Need) (set : Steps) (i : ℕ) → seen ≡ needs → length seen ≤ i → All (StaysIn set) (take i seen) → (IsTrue true → IsClosed needs set) × (IsClosed needs set → IsTrue true)
stays_in seen needs set i is past each =
    let whole : take i seen ≡ needs = take_all i seen past ∙ is in
    ((λ always. closed_from_needs needs set (rw whole at each)), (λ closed. refl))
