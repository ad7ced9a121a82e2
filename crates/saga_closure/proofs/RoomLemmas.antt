-- Prices as numbers, and what still goes over a step.
use Rattle.std.proofs.Common.{ℕ, ◌≡◌, ◌<◌, ◌≤◌, ◌+◌, ◌^◌, ◌∙◌, ◌++◌, [], ◌∷◌, true, false, eqb, List, Some, length, get_or, sym, refl, arith, inl, inr}
use Rattle.std.specs.Prelude.{slice_get}
use Rattle.std.proofs.lemmas.Bool.{cases_eq, ne_eqb}
use Rattle.std.proofs.lemmas.List.{length-append, get_or_push, get_or_append_left}
use Rattle.std.proofs.lemmas.Option.{same_Some}
use Rattle.saga_def.specs.declared.steps.Price.{Price}
use Rattle.saga_def.specs.declared.steps.Price.TheVariants as price
use Rattle.saga_case.specs.Terms.{Terms}
use Rattle.saga_flow.specs.declared.nets.Arc.{Arc}
use Rattle.saga_flow.specs.declared.nets.Cap.{Cap}
use Rattle.saga_flow.specs.declared.residual_arcs.ResidualArc.{ResidualArc}
use Rattle.saga_flow.specs.Flows.{IsWithin}
use Rattle.saga_flow.specs.Residual.{HasRoom, Carries}
use Rattle.saga_closure.specs.CaseNet.{cap_of, network_of}
use Rattle.saga_closure.specs.Capacities.{amount_of, room_of, room_at, AreCapacities}
use Rattle.saga_closure.proofs.ArcCases.{each_at}

-- what the room of a price says
pub record IsRoom (cap : Cap) (x room : ℕ) : Type 0 where
  pub goes : 0 < room → IsWithin (x + room) cap
  pub one : 0 < room → IsWithin (x + 1) cap
  pub shut : IsWithin (x + 1) cap → 0 < room
  pub most : room < 2 ^ 63 → 0 < room → IsWithin (x + (room + 1)) cap → ⊥

pub room_is : (p : Price) (x : ℕ) → ((a : ℕ) → p ≡ price.Of a → a < 2 ^ 63) → IsRoom (cap_of p) x (room_of (amount_of p) x)
room_is (price.Of a) x small =
    let e : eqb a (2 ^ 63) ≡ false = ne_eqb a (2 ^ 63) (λ q. absurd (omega (arith, small a refl))) in
    rw e (record { goes = λ h. omega arith; one = λ h. omega arith; shut = λ h. omega arith; most = λ h k w. omega arith })
room_is price.Never x small = record { goes = λ h. tt; one = λ h. tt; shut = λ h. omega arith; most = λ h k w. omega arith }

pub leave_room : (t : Terms) (caps on : List ℕ) (v : ℕ) → AreCapacities t caps → v < t.count → IsRoom (cap_of (t.leave v)) (get_or on v 0) (room_at caps on v)
leave_room t caps on v capacities lt =
    rw (capacities.leave v lt) (room_is (t.leave v) (get_or on v 0) (λ a e. capacities.leave_small v a lt e))

pub stand_room : (t : Terms) (caps on : List ℕ) (v : ℕ) → AreCapacities t caps → v < t.count → IsRoom (cap_of (t.stand v)) (get_or on (t.count + v) 0) (room_at caps on (t.count + v))
stand_room t caps on v capacities lt =
    rw (capacities.stand v lt) (room_is (t.stand v) (get_or on (t.count + v) 0) (λ a e. capacities.stand_small v a lt e))

module _ (t : Terms) (caps on : List ℕ) (capacities : AreCapacities t caps) (s : ResidualArc) where
  -- the room of an arc of a price
  arc_room : (k : ℕ) (a : Arc) → slice_get (network_of t).arcs k ≡ Some a → k < length caps → IsRoom a.cap (get_or on k 0) (room_at caps on k)
  arc_room = each_at t (λ k a. k < length caps → IsRoom a.cap (get_or on k 0) (room_at caps on k))
      (λ v lt short. leave_room t caps on v capacities lt)
      (λ v lt short. stand_room t caps on v capacities lt)
      (λ k lt short. absurd (omega (arith, capacities.sized)))

  -- an arc of a need takes any amount
  link_room : (k : ℕ) (a : Arc) → slice_get (network_of t).arcs k ≡ Some a → length caps ≤ k → (x : ℕ) → IsWithin x a.cap
  link_room = each_at t (λ k a. length caps ≤ k → (x : ℕ) → IsWithin x a.cap)
      (λ v lt long. absurd (omega (arith, capacities.sized)))
      (λ v lt long. absurd (omega (arith, capacities.sized)))
      (λ k lt long x. tt)

  along : (a : Arc) (x more : ℕ) → s.forward ≡ true → HasRoom s.forward a.cap x more → IsWithin (x + more) a.cap
  along a x more way room = rw way at room

  along_from : (a : Arc) (x more : ℕ) → s.forward ≡ true → IsWithin (x + more) a.cap → HasRoom s.forward a.cap x more
  along_from a x more way room = rw way room

  pub along_carries : s.forward ≡ true → s.arc < length caps → Carries (network_of t).arcs on 1 s → (0 < room_at caps on s.arc) × Carries (network_of t).arcs on (room_at caps on s.arc) s × (room_at caps on s.arc < 2 ^ 63 → Carries (network_of t).arcs on (room_at caps on s.arc + 1) s → ⊥)
  along_carries way short (a, at, room) =
      let is = arc_room s.arc a at short in
      let some : 0 < room_at caps on s.arc = is.shut (along a (get_or on s.arc 0) 1 way room) in (
        some,
        (a, at, along_from a (get_or on s.arc 0) (room_at caps on s.arc) way (is.goes some)),
        λ less (b, at_b, more).
            let same : b ≡ a = same_Some _ _ (sym at_b ∙ at) in
            is.most less some (along a (get_or on s.arc 0) (room_at caps on s.arc + 1) way (rw same at more)),
      )

  pub link_carries : s.forward ≡ true → length caps ≤ s.arc → Carries (network_of t).arcs on 1 s → (more : ℕ) → Carries (network_of t).arcs on more s
  link_carries way long (a, at, room) more = (a, at, along_from a (get_or on s.arc 0) more way (link_room s.arc a at long (get_or on s.arc 0 + more)))

  pub back_carries : s.forward ≡ false → Carries (network_of t).arcs on 1 s → (0 < get_or on s.arc 0) × Carries (network_of t).arcs on (get_or on s.arc 0) s × (Carries (network_of t).arcs on (get_or on s.arc 0 + 1) s → ⊥)
  back_carries way (a, at, room) = (
    (let r : HasRoom false a.cap (get_or on s.arc 0) 1 = rw way at room in omega (arith, r)),
    (a, at, rw way (omega arith)),
    λ (b, at_b, more). let r : HasRoom false b.cap (get_or on s.arc 0) (get_or on s.arc 0 + 1) = rw way at more in omega (arith, r),
  )

-- ---- the loops that list the prices

pub record AreLeaves (t : Terms) (caps : List ℕ) (count : ℕ) : Type 0 where
  pub sized : length caps ≡ count
  pub leave : (s : ℕ) → s < count → get_or caps s 0 ≡ amount_of (t.leave s)

pub record AreStands (t : Terms) (caps : List ℕ) (count : ℕ) : Type 0 where
  pub sized : length caps ≡ t.count + count
  pub leave : (s : ℕ) → s < t.count → get_or caps s 0 ≡ amount_of (t.leave s)
  pub stand : (s : ℕ) → s < count → get_or caps (t.count + s) 0 ≡ amount_of (t.stand s)

pub leaves_more : (t : Terms) (caps : List ℕ) (k x : ℕ) → AreLeaves t caps k → x ≡ amount_of (t.leave k) → AreLeaves t (caps ++ x ∷ []) (k + 1)
leaves_more t caps k x are is = record {
  sized = omega (arith, length-append caps (x ∷ []), are.sized);
  leave = λ s lt. elim (cases_eq s k) [
    | inl e ↦ rw e (get_or_push caps x 0 k are.sized ∙ is)
    | inr ne ↦ get_or_append_left caps (x ∷ []) 0 s (omega (arith, are.sized)) ∙ are.leave s (omega arith)
  ];
}

pub stands_more : (t : Terms) (caps : List ℕ) (k x : ℕ) → AreStands t caps k → x ≡ amount_of (t.stand k) → AreStands t (caps ++ x ∷ []) (k + 1)
stands_more t caps k x are is = record {
  sized = omega (arith, length-append caps (x ∷ []), are.sized);
  leave = λ s lt. get_or_append_left caps (x ∷ []) 0 s (omega (arith, are.sized)) ∙ are.leave s lt;
  stand = λ s lt. elim (cases_eq s k) [
    | inl e ↦ rw e (get_or_push caps x 0 (t.count + k) are.sized ∙ is)
    | inr ne ↦ get_or_append_left caps (x ∷ []) 0 (t.count + s) (omega (arith, are.sized)) ∙ are.stand s (omega arith)
  ];
}
