-- The residual arcs of a case's network, kind by kind.
use Rattle.std.proofs.Common.{ℕ, ◌≡◌, ◌<◌, ◌+◌, ◌-◌, ◌∙◌, Bool, true, false, List, Some, length, get_or, sym, subst, refl, arith, inl, inr}
use Rattle.std.specs.Prelude.{slice_get}
use Rattle.std.proofs.lemmas.Bool.{cases_lt}
use Rattle.std.proofs.lemmas.Option.{slice_get_within, same_Some}
use Rattle.saga_def.specs.declared.steps.Need.{Need}
use Rattle.saga_case.specs.Terms.{Terms}
use Rattle.saga_flow.specs.declared.nets.Arc.{Arc}
use Rattle.saga_flow.specs.declared.residual_arcs.ResidualArc.{ResidualArc}
use Rattle.saga_flow.specs.Flows.{IsWithin}
use Rattle.saga_flow.specs.Residual.{Joins, HasRoom, IsOpen}
use Rattle.saga_closure.specs.CaseNet.{leave_arc, stand_arc, link_arc, cap_of, network_of}
use Rattle.saga_closure.proofs.ArcLemmas.{arcs_sized, leave_at, stand_at, link_at}

abbrev pub no_need : Need
no_need = record { step = 0; on = 0 }

abbrev pub need_at : Terms → ℕ → Need
need_at t k = get_or t.needs k no_need

-- what holds of each numbered arc of the three groups holds of all
pub each_at : (t : Terms) (P : ℕ → Arc → Type 0) → ((v : ℕ) → v < t.count → P v (leave_arc t v)) → ((v : ℕ) → v < t.count → P (t.count + v) (stand_arc t v)) → ((k : ℕ) → k < length t.needs → P (t.count + (t.count + k)) (link_arc (need_at t k))) → (k : ℕ) (a : Arc) → slice_get (network_of t).arcs k ≡ Some a → P k a
each_at t P leaves stands links k a at =
    let within : k < t.count + (t.count + length t.needs) = omega (arith, slice_get_within (network_of t).arcs k a at, arcs_sized t) in
    elim (cases_lt k t.count) [
      | inl first ↦ subst (P k) (same_Some _ _ (sym (leave_at t k first) ∙ at)) (leaves k first)
      | inr past ↦ elim (cases_lt (k - t.count) t.count) [
        | inl second ↦
            let e : t.count + (k - t.count) ≡ k = omega arith in
            let at' : slice_get (network_of t).arcs (t.count + (k - t.count)) ≡ Some a = rw e at in
            subst (λ i. P i a) e (subst (P (t.count + (k - t.count))) (same_Some _ _ (sym (stand_at t (k - t.count) second) ∙ at')) (stands (k - t.count) second))
        | inr third ↦
            let i : ℕ = k - t.count - t.count in
            let less : i < length t.needs = omega arith in
            let e : t.count + (t.count + i) ≡ k = omega arith in
            let at' : slice_get (network_of t).arcs (t.count + (t.count + i)) ≡ Some a = rw e at in
            subst (λ j. P j a) e (subst (P (t.count + (t.count + i))) (same_Some _ _ (sym (link_at t i no_need less) ∙ at')) (links i less))
      ]
    ]

-- what a residual arc asks of the arc that it is over
abbrev pub OpenOver : (ℕ → ℕ → Type 0) → List ℕ → ℕ → Arc → Type 0
OpenOver P on k a = (way : Bool) (u v : ℕ) → Joins way a u v → HasRoom way a.cap (get_or on k 0) 1 → P u v

module _ (t : Terms) (on : List ℕ) (P : ℕ → ℕ → Type 0)
    (leave : (v : ℕ) → v < t.count → IsWithin (get_or on v 0 + 1) (cap_of (t.leave v)) → P 0 (2 + v))
    (unleave : (v : ℕ) → v < t.count → P (2 + v) 0)
    (stand : (v : ℕ) → v < t.count → IsWithin (get_or on (t.count + v) 0 + 1) (cap_of (t.stand v)) → P (2 + v) 1)
    (unstand : (v : ℕ) → v < t.count → P 1 (2 + v))
    (link : (k : ℕ) → k < length t.needs → P (2 + (need_at t k).step) (2 + (need_at t k).on))
    (unlink : (k : ℕ) → k < length t.needs → 0 < get_or on (t.count + (t.count + k)) 0 → P (2 + (need_at t k).on) (2 + (need_at t k).step)) where
  over_leave : (v : ℕ) → v < t.count → OpenOver P on v (leave_arc t v)
  over_leave x lt true u v joins room = subst (λ a. P a v) joins.0 (subst (P 0) joins.1 (leave x lt room))
  over_leave x lt false u v joins room = subst (λ a. P a v) joins.0 (subst (P (2 + x)) joins.1 (unleave x lt))

  over_stand : (v : ℕ) → v < t.count → OpenOver P on (t.count + v) (stand_arc t v)
  over_stand x lt true u v joins room = subst (λ a. P a v) joins.0 (subst (P (2 + x)) joins.1 (stand x lt room))
  over_stand x lt false u v joins room = subst (λ a. P a v) joins.0 (subst (P 1) joins.1 (unstand x lt))

  over_link : (k : ℕ) → k < length t.needs → OpenOver P on (t.count + (t.count + k)) (link_arc (need_at t k))
  over_link k lt true u v joins room = subst (λ a. P a v) joins.0 (subst (P (2 + (need_at t k).step)) joins.1 (link k lt))
  over_link k lt false u v joins room = subst (λ a. P a v) joins.0 (subst (P (2 + (need_at t k).on)) joins.1 (unlink k lt room))

  pub each_open : (s : ResidualArc) (u v : ℕ) → IsOpen (network_of t).arcs on s u v → P u v
  each_open s u v ((a, at, joins), (b, at_b, room)) =
      let same : b ≡ a = same_Some _ _ (sym at_b ∙ at) in
      each_at t (OpenOver P on) over_leave over_stand over_link s.arc a at s.forward u v joins (rw same at room)

-- the kinds of residual arcs
pub opens_leave : (t : Terms) (on : List ℕ) (v : ℕ) → v < t.count → IsWithin (get_or on v 0 + 1) (cap_of (t.leave v)) → IsOpen (network_of t).arcs on (record { arc = v; forward = true }) 0 (2 + v)
opens_leave t on v lt room = ((leave_arc t v, leave_at t v lt, (refl, refl)), (leave_arc t v, leave_at t v lt, room))

pub opens_stand : (t : Terms) (on : List ℕ) (v : ℕ) → v < t.count → IsWithin (get_or on (t.count + v) 0 + 1) (cap_of (t.stand v)) → IsOpen (network_of t).arcs on (record { arc = t.count + v; forward = true }) (2 + v) 1
opens_stand t on v lt room = ((stand_arc t v, stand_at t v lt, (refl, refl)), (stand_arc t v, stand_at t v lt, room))

pub opens_link : (t : Terms) (on : List ℕ) (k : ℕ) → k < length t.needs → IsOpen (network_of t).arcs on (record { arc = t.count + (t.count + k); forward = true }) (2 + (need_at t k).step) (2 + (need_at t k).on)
opens_link t on k lt = ((link_arc (need_at t k), link_at t k no_need lt, (refl, refl)), (link_arc (need_at t k), link_at t k no_need lt, tt))

pub opens_unlink : (t : Terms) (on : List ℕ) (k : ℕ) → k < length t.needs → 0 < get_or on (t.count + (t.count + k)) 0 → IsOpen (network_of t).arcs on (record { arc = t.count + (t.count + k); forward = false }) (2 + (need_at t k).on) (2 + (need_at t k).step)
opens_unlink t on k lt room = ((link_arc (need_at t k), link_at t k no_need lt, (refl, refl)), (link_arc (need_at t k), link_at t k no_need lt, room))
