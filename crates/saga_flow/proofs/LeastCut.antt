-- Greatest flow and least cut: no value is above the bound of a cut, and a flow whose residual network keeps the sink
-- from the source has the bound of the set that the source reaches. Sets of nodes are functions to truth values.
use Rattle.std.proofs.Common.{◌≡◌, ℕ, zero, suc, ◌+◌, ◌<◌, ◌≤◌, Bool, true, false, not, ◌&&◌, cond, eqb, List, Some, length, get_or, sum_by, refl, sym, ap, ◌∙◌, inl, inr, arith}
use Rattle.std.specs.Prelude.{slice_get}
use Rattle.std.proofs.lemmas.Bool.{and_parts, true≢false, not-true, both_ways, true_from_ne_false, false_from_ne_true, eq-eqb, ne_eqb, cases_eq, cases_lt}
use Rattle.std.proofs.lemmas.List.Sums.{sum_by-le-sum_by}
use Rattle.std.proofs.lemmas.Option.{slice_get_within, same_Some}
use Rattle.saga_flow.specs.declared.nets.Arc.{Arc}
use Rattle.saga_flow.specs.declared.nets.Cap.{Cap}
use Rattle.saga_flow.specs.declared.nets.Cap.TheVariants.{Of, Unbounded}
use Rattle.saga_flow.specs.declared.residual_arcs.ResidualArc.{ResidualArc}
use Rattle.saga_flow.specs.Network.{bound_of, bound_sum}
use Rattle.saga_flow.specs.Flows.{total, IsWithin, IsFlow, HasValue, IsGreatest}
use Rattle.saga_flow.specs.Residual.{Joins, HasRoom, IsOpen, IsResidual}
use Rattle.saga_flow.specs.Reached.{Reaches, here, next, HasUnbounded}
use Rattle.saga_flow.proofs.TotalLemmas.{total-le, total-same, total-fixed, total-none, total-tight}
use Rattle.saga_flow.proofs.NetLemmas.{AreEnds}
use Rattle.saga_flow.proofs.CutLemmas.{leaving, value_across}

-- an arc leaves a set
abbrev pub leaves : (ℕ → Bool) → Arc → Bool
leaves S a = S a.from && not (S a.to)

-- an arc enters a set
abbrev pub enters : (ℕ → Bool) → Arc → Bool
enters S a = not (S a.from) && S a.to

-- the sum of the capacities of the arcs that leave a set
abbrev pub cut_bound : (ℕ → Bool) → List Arc → ℕ
cut_bound S arcs = sum_by (λ (a : Arc). cond (leaves S a) (bound_of a.cap) 0) arcs

-- a cut: a set that holds the source and not the sink, and that no unbounded arc leaves
pub record IsCut (S : ℕ → Bool) (arcs : List Arc) : Type 0 where
  pub source : S 0 ≡ true
  pub sink : S 1 ≡ false
  pub bounded : (k : ℕ) (a : Arc) → slice_get arcs k ≡ Some a → leaves S a ≡ true → a.cap ≡ Unbounded → ⊥

-- an amount within a capacity is at most its bound, unless it is unbounded
within_bound : (x : ℕ) (cap : Cap) → IsWithin x cap → (cap ≡ Unbounded → ⊥) → x ≤ bound_of cap
within_bound x (Of c) h no_end = h
within_bound x Unbounded h no_end = absurd (no_end refl)

-- the share of an arc that leaves is at most its capacity
share_within : (out : Bool) (x : ℕ) (cap : Cap) → IsWithin x cap → (out ≡ true → cap ≡ Unbounded → ⊥) → cond out x 0 ≤ cond out (bound_of cap) 0
share_within true x cap h bounded = within_bound x cap h (bounded refl)
share_within false x cap h bounded = omega arith

module _ (S : ℕ → Bool) (arcs : List Arc) (on : List ℕ) (flow : IsFlow arcs on) (cut : IsCut S arcs) where
  share_each : (k : ℕ) (a : Arc) → slice_get arcs k ≡ Some a → cond (leaves S a) (get_or on k 0) 0 ≤ cond (leaves S a) (bound_of a.cap) 0
  share_each k a at = share_within (leaves S a) (get_or on k 0) a.cap (flow.within k a at) (cut.bounded k a at)

  bound_is : total (λ (a : Arc) x. cond (leaves S a) (bound_of a.cap) 0) arcs on ≡ cut_bound S arcs
  bound_is = total-fixed (λ (a : Arc). cond (leaves S a) (bound_of a.cap) 0) arcs on flow.sized

  leaving_le_bound : leaving S arcs on ≤ cut_bound S arcs
  leaving_le_bound = omega (arith, bound_is, total-le (λ (a : Arc) x. cond (leaves S a) x 0) (λ (a : Arc) x. cond (leaves S a) (bound_of a.cap) 0) arcs on share_each)

-- the value of a flow is at most the bound of each cut
pub value_le_cut : (S : ℕ → Bool) (nodes : ℕ) (arcs : List Arc) (on : List ℕ) (value : ℕ) → AreEnds nodes arcs → IsFlow arcs on → HasValue arcs on value → IsCut S arcs → value ≤ cut_bound S arcs
value_le_cut S nodes arcs on value ends flow worth cut =
    omega (arith, value_across S nodes arcs on value cut.source cut.sink ends flow worth, leaving_le_bound S arcs on flow cut)

-- the bound of a cut is at most the sum of all bounds
pub cut_le_sum : (S : ℕ → Bool) (arcs : List Arc) → cut_bound S arcs ≤ bound_sum arcs
cut_le_sum S arcs = sum_by-le-sum_by _ _ arcs (λ a. share_le (leaves S a) (bound_of a.cap))
  where
    share_le : (out : Bool) (x : ℕ) → cond out x 0 ≤ x
    share_le true x = omega arith
    share_le false x = omega arith

-- the arc of an open residual arc, with what the residual arc says of it
pub arc_of : (arcs : List Arc) (on : List ℕ) (s : ResidualArc) (from to : ℕ) → IsOpen arcs on s from to → (a : Arc) × (slice_get arcs s.arc ≡ Some a) × Joins s.forward a from to × HasRoom s.forward a.cap (get_or on s.arc 0) 1
arc_of arcs on s from to (lead, carry) =
    let same : carry.0 ≡ lead.0 = same_Some _ _ (sym carry.1 ∙ lead.1) in
    (lead.0, lead.1, lead.2, rw same at carry.2)

-- a full arc has no room
full_no_room : (x : ℕ) (cap : Cap) → (cap ≡ Unbounded → ⊥) → x ≡ bound_of cap → IsWithin (x + 1) cap → ⊥
full_no_room x (Of c) bounded full room = absurd (omega arith)
full_no_room x Unbounded bounded full room = bounded refl

-- an arc with no room is bounded and full
full_from_no_room : (x : ℕ) (cap : Cap) → IsWithin x cap → (IsWithin (x + 1) cap → ⊥) → (cap ≡ Unbounded → ⊥) × (x ≡ bound_of cap)
full_from_no_room x (Of c) within no_room =
    (λ q. absurd (cc), elim (cases_lt x c) [ inl less ↦ absurd (no_room (omega arith)) | inr more ↦ omega arith ])
full_from_no_room x Unbounded within no_room = absurd (no_room tt)

module _ (S : ℕ → Bool) (nodes : ℕ) (arcs : List Arc) (on : List ℕ) (value : ℕ) (ends : AreEnds nodes arcs) (flow : IsFlow arcs on) (worth : HasValue arcs on value) (cut : IsCut S arcs) (filled : value ≡ cut_bound S arcs) where
  -- where the value is the bound of a cut, each arc that leaves it has its whole capacity
  pub leaving_full : (k : ℕ) (a : Arc) → slice_get arcs k ≡ Some a → leaves S a ≡ true → get_or on k 0 ≡ bound_of a.cap
  leaving_full k a at out =
      let short : k < length on = omega (arith, slice_get_within arcs k a at, flow.sized) in
      let same = total-tight (λ (b : Arc) x. cond (leaves S b) x 0) (λ (b : Arc) x. cond (leaves S b) (bound_of b.cap) 0) arcs on (share_each S arcs on flow cut) (omega (arith, bound_is S arcs on flow cut, value_across S nodes arcs on value cut.source cut.sink ends flow worth)) k a at short in
      rw out at same

  -- and each arc that enters it has nothing
  pub entering_empty : (k : ℕ) (a : Arc) → slice_get arcs k ≡ Some a → enters S a ≡ true → get_or on k 0 ≡ 0
  entering_empty k a at into_it =
      let short : k < length on = omega (arith, slice_get_within arcs k a at, flow.sized) in
      let same = total-tight (λ (b : Arc) x. 0) (λ (b : Arc) x. cond (enters S b) x 0) arcs on (λ j b q. omega arith) (omega (arith, total-none arcs on, leaving_le_bound S arcs on flow cut, value_across S nodes arcs on value cut.source cut.sink ends flow worth)) k a at short in
      sym (rw into_it at same)

  -- no arc of the residual network leads out of the cut
  no_way_out : (k : ℕ) (a : Arc) (way : Bool) (from to : ℕ) → slice_get arcs k ≡ Some a → Joins way a from to → HasRoom way a.cap (get_or on k 0) 1 → S from ≡ true → S to ≡ false → ⊥
  no_way_out k a true from to at joins room inside outside =
      let begins : S a.from ≡ true = ap S joins.0 ∙ inside in
      let ends_out : S a.to ≡ false = ap S joins.1 ∙ outside in
      let out : leaves S a ≡ true = rw (begins, ends_out) refl in
      full_no_room (get_or on k 0) a.cap (cut.bounded k a at out) (leaving_full k a at out) room
  no_way_out k a false from to at joins room inside outside =
      let ends_in : S a.to ≡ true = ap S joins.0 ∙ inside in
      let begins_out : S a.from ≡ false = ap S joins.1 ∙ outside in
      let into_it : enters S a ≡ true = rw (begins_out, ends_in) refl in
      absurd (omega (arith, entering_empty k a at into_it, room))

  -- an arc of the residual network that begins in the cut ends in it
  pub stays_in_cut : (from to : ℕ) → IsResidual arcs on from to → S from ≡ true → S to ≡ true
  stays_in_cut from to r inside =
      let found = arc_of arcs on r.0 from to r.1 in
      true_from_ne_false (S to) (λ outside. no_way_out r.0.arc found.0 r.0.forward from to found.1 found.2 found.3 inside outside)

  -- so all that the source reaches is in the cut
  pub reached_in_cut : (node : ℕ) → Reaches (IsResidual arcs on) 0 node → S node ≡ true
  reached_in_cut node here = cut.source
  reached_in_cut node (next {mid} r e) = stays_in_cut mid node e (reached_in_cut mid r)

-- a set that holds the source and not the sink, and that no arc of the residual network leaves
module _ (S : ℕ → Bool) (nodes : ℕ) (arcs : List Arc) (on : List ℕ) (value : ℕ) (ends : AreEnds nodes arcs) (flow : IsFlow arcs on) (worth : HasValue arcs on value) (source : S 0 ≡ true) (sink : S 1 ≡ false) (closed : (from to : ℕ) → IsResidual arcs on from to → S from ≡ true → S to ≡ true) where
  -- each arc that leaves it is bounded and full
  pub closed_full : (k : ℕ) (a : Arc) → slice_get arcs k ≡ Some a → leaves S a ≡ true → (a.cap ≡ Unbounded → ⊥) × (get_or on k 0 ≡ bound_of a.cap)
  closed_full k a at out =
      let parts = and_parts (S a.from) (not (S a.to)) out in
      full_from_no_room (get_or on k 0) a.cap (flow.within k a at)
      (λ room. both_ways (S a.to) (not-true (S a.to) parts.1) (closed a.from a.to (record { arc = k; forward = true }, ((a, at, (refl, refl)), (a, at, room))) parts.0))

  -- each arc that enters it is empty
  pub closed_empty : (k : ℕ) (a : Arc) → slice_get arcs k ≡ Some a → enters S a ≡ true → get_or on k 0 ≡ 0
  closed_empty k a at into_it =
      let parts = and_parts (not (S a.from)) (S a.to) into_it in
      elim (cases_lt 0 (get_or on k 0)) [
        | inl some ↦ absurd (both_ways (S a.from) (not-true (S a.from) parts.0) (closed a.to a.from (record { arc = k; forward = false }, ((a, at, (refl, refl)), (a, at, some))) parts.1))
        | inr none ↦ omega arith
      ]

  -- it is a cut
  pub closed_is_cut : IsCut S arcs
  closed_is_cut = record { source = source; sink = sink; bounded = λ k a at out. (closed_full k a at out).0 }

  -- whose bound is the value
  pub closed_value : value ≡ cut_bound S arcs
  closed_value =
      let full = total-same (λ (a : Arc) x. cond (leaves S a) x 0) (λ (a : Arc) x. cond (leaves S a) (bound_of a.cap) 0) arcs on (λ k a at. full_share (leaves S a) (get_or on k 0) (bound_of a.cap) (λ out. (closed_full k a at out).1)) in
      let empty = total-same (λ (a : Arc) x. cond (enters S a) x 0) (λ a x. 0) arcs on (λ k a at. empty_share (enters S a) (get_or on k 0) (closed_empty k a at)) in
      omega (arith, full, empty, total-none arcs on, total-fixed (λ (a : Arc). cond (leaves S a) (bound_of a.cap) 0) arcs on flow.sized, value_across S nodes arcs on value source sink ends flow worth)
    where
      full_share : (out : Bool) (x y : ℕ) → (out ≡ true → x ≡ y) → cond out x 0 ≡ cond out y 0
      full_share true x y h = h refl
      full_share false x y h = refl

      empty_share : (inside : Bool) (x : ℕ) → (inside ≡ true → x ≡ 0) → cond inside x 0 ≡ 0
      empty_share true x h = h refl
      empty_share false x h = refl

  -- so the value is the greatest
  pub closed_greatest : IsGreatest arcs value
  closed_greatest other more other_flow other_worth =
      omega (arith, value_le_cut S nodes arcs other more ends other_flow other_worth closed_is_cut, closed_value)

-- the set of just the nodes that the source reaches, the sink not among them
module _ (S : ℕ → Bool) (nodes : ℕ) (arcs : List Arc) (on : List ℕ) (value : ℕ) (ends : AreEnds nodes arcs) (flow : IsFlow arcs on) (worth : HasValue arcs on value) (sound : (node : ℕ) → S node ≡ true → Reaches (IsResidual arcs on) 0 node) (whole : (node : ℕ) → Reaches (IsResidual arcs on) 0 node → S node ≡ true) (apart : Reaches (IsResidual arcs on) 0 1 → ⊥) where
  no_sink : S 1 ≡ false
  no_sink = false_from_ne_true (S 1) (λ inside. apart (sound 1 inside))

  no_step_out : (from to : ℕ) → IsResidual arcs on from to → S from ≡ true → S to ≡ true
  no_step_out from to step inside = whole to (next (sound from inside) step)

  -- each arc that leaves it is bounded and full
  pub reached_full : (k : ℕ) (a : Arc) → slice_get arcs k ≡ Some a → leaves S a ≡ true → (a.cap ≡ Unbounded → ⊥) × (get_or on k 0 ≡ bound_of a.cap)
  reached_full k a at out = closed_full S nodes arcs on value ends flow worth (whole 0 here) no_sink no_step_out k a at out

  -- each arc that enters it is empty
  pub reached_empty : (k : ℕ) (a : Arc) → slice_get arcs k ≡ Some a → enters S a ≡ true → get_or on k 0 ≡ 0
  reached_empty k a at into_it = closed_empty S nodes arcs on value ends flow worth (whole 0 here) no_sink no_step_out k a at into_it

  -- it is a cut
  pub reached_is_cut : IsCut S arcs
  reached_is_cut = closed_is_cut S nodes arcs on value ends flow worth (whole 0 here) no_sink no_step_out

  -- whose bound is the value
  pub reached_value : value ≡ cut_bound S arcs
  reached_value = closed_value S nodes arcs on value ends flow worth (whole 0 here) no_sink no_step_out

  -- so the value is the greatest
  pub reached_greatest : IsGreatest arcs value
  reached_greatest = closed_greatest S nodes arcs on value ends flow worth (whole 0 here) no_sink no_step_out

-- what is reached from a member of a set that no residual arc leaves is a member
pub reached_in_closed : (R : ℕ → ℕ → Type 0) (S : ℕ → Bool) (from to : ℕ) → S from ≡ true → ((u v : ℕ) → R u v → S u ≡ true → S v ≡ true) → Reaches R from to → S to ≡ true
reached_in_closed R S from to inside closed here = inside
reached_in_closed R S from to inside closed (next {mid} r step) = closed mid to step (reached_in_closed R S from mid inside closed r)

-- to refute something, one may take the truth of P below a number for decided
decided : (P : ℕ → Type 0) (n : ℕ) → ((S : ℕ → Bool) → ((v : ℕ) → v < n → S v ≡ true → P v) → ((v : ℕ) → v < n → S v ≡ false → P v → ⊥) → ⊥) → ⊥
decided P zero refute = refute (λ v. false) (λ v h q. absurd (omega arith)) (λ v h q p. omega arith)
decided P (suc n) refute =
    decided P n (λ S member other_node.
    let at_n : (P n → ⊥) = λ p. refute (λ v. cond (eqb v n) true (S v))
    (λ v h q. elim (cases_eq v n) [ inl same ↦ rw same p | inr other ↦ member v (omega arith) (rw (ne_eqb v n other) at q) ])
    (λ v h q here_p. elim (cases_eq v n) [ inl same ↦ true≢false (rw (eq-eqb v n same) at q) | inr other ↦ other_node v (omega arith) (rw (ne_eqb v n other) at q) here_p ]) in
    refute (λ v. cond (eqb v n) false (S v))
    (λ v h q. elim (cases_eq v n) [ inl same ↦ absurd (true≢false (sym (rw (eq-eqb v n same) at q))) | inr other ↦ member v (omega arith) (rw (ne_eqb v n other) at q) ])
    (λ v h q here_p. elim (cases_eq v n) [ inl same ↦ at_n (rw same at here_p) | inr other ↦ other_node v (omega arith) (rw (ne_eqb v n other) at q) here_p ]))

-- where no path of unbounded arcs leads to the sink, each value is at most the sum of the capacities
pub value_le_sum : (nodes : ℕ) (arcs : List Arc) (on : List ℕ) (value : ℕ) → 1 < nodes → AreEnds nodes arcs → (Reaches (HasUnbounded arcs) 0 1 → ⊥) → IsFlow arcs on → HasValue arcs on value → value ≤ bound_sum arcs
value_le_sum nodes arcs on value two ends apart flow worth =
    elim (cases_lt (bound_sum arcs) value) [
      | inl less ↦ absurd (decided (Reaches (HasUnbounded arcs) 0) nodes (λ S member other_node. too_much S (omega (arith, value_le_cut S nodes arcs on value ends flow worth (cut S member other_node), cut_le_sum S arcs))))
      | inr fits ↦ fits
    ]
  where
    too_much : (S : ℕ → Bool) → ⊥ → ⊥
    too_much S h = h

    cut : (S : ℕ → Bool) → ((v : ℕ) → v < nodes → S v ≡ true → Reaches (HasUnbounded arcs) 0 v) → ((v : ℕ) → v < nodes → S v ≡ false → Reaches (HasUnbounded arcs) 0 v → ⊥) → IsCut S arcs
    cut S member other_node = record {
      source = true_from_ne_false (S 0) (λ outside. other_node 0 (omega arith) outside here);
      sink = false_from_ne_true (S 1) (λ inside. apart (member 1 two inside));
      bounded = λ k a at out unbounded.
          let parts = and_parts (S a.from) (not (S a.to)) out in
          other_node a.to (ends k a at).1 (not-true (S a.to) parts.1) (next (member a.from (ends k a at).0 parts.0) (k, a, at, refl, refl, unbounded));
    }
