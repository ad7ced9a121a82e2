-- A search without a goal: the steps with a level are those that the source reaches, and the flow is a greatest.
use Rattle.std.proofs.Common.{ℕ, zero, suc, ◌≡◌, ◌<◌, ◌≤◌, ◌+◌, ◌-◌, ◌∙◌, Bool, true, false, cond, eqb, List, length, get_or, map, ap, sym, subst, refl, arith, inl, inr}
use Rattle.std.proofs.lemmas.List.{get_or-map, length-map}
use Rattle.std.proofs.lemmas.Bool.{cases_eq, cases_lt, ne_eqb, lt-ltb, ltb-true, true≢false}
use Rattle.saga_def.specs.Rules.{AreKnown}
use Rattle.saga_case.specs.Terms.{Terms}
use Rattle.saga_flow.specs.Network.{IsNetwork}
use Rattle.saga_flow.specs.Residual.{IsResidual}
use Rattle.saga_flow.specs.Reached.{Reaches, here, next}
use Rattle.saga_flow.specs.Progress.{IsProgress}
use Rattle.saga_flow.proofs.NetLemmas.{AreEnds-from_test}
use Rattle.saga_flow.proofs.LeastCut.{closed_greatest, reached_in_closed}
use Rattle.saga_flow.proofs.RoundLemmas.{rounds_le_size}
use Rattle.saga_closure.specs.CaseNet.{network_of}
use Rattle.saga_closure.specs.declared.searching.Found.{Found}
use Rattle.saga_closure.specs.declared.flows.ClosureFlow.{ClosureFlow}
use Rattle.saga_closure.specs.Layers.{none, is_level, Goes, CameBy, IsReach, IsSearch}
use Rattle.saga_closure.specs.Largest.{IsLargest}
use Rattle.saga_closure.proofs.ArcCases.{need_at, no_need, each_open, opens_leave, opens_stand, opens_link, opens_unlink}
use Rattle.saga_closure.proofs.SearchLemmas.{depth_few}

abbrev side : List ℕ → ℕ → Bool
side level node = cond (eqb node 0) true (cond (eqb node 1) false (is_level (get_or level (node - 2) 0)))

side_step : (level : List ℕ) (v : ℕ) → side level (2 + v) ≡ is_level (get_or level v 0)
side_step level v =
    let e : 2 + v - 2 ≡ v = omega arith in
    rw (ne_eqb (2 + v) 0 (λ q. omega (arith, q)), ne_eqb (2 + v) 1 (λ q. omega (arith, q)), e) refl

module _ (t : Terms) (on : List ℕ) (found : Found) (known : AreKnown t.needs t.count) (end : IsReach t on found) where
  level : List ℕ
  level = found.level.items

  -- a level is below the depth
  low_level : (v : ℕ) → v < t.count → get_or found.level.items v 0 < none → get_or found.level.items v 0 < end.depth
  low_level v lt some = elim (end.search.levels v lt) [
    | inl few ↦ elim (cases_lt (get_or found.level.items v 0) end.depth) [
      | inl less ↦ less
      | inr more ↦ elim (cases_eq (get_or found.level.items v 0) end.depth) [
        | inl e ↦ let at = end.search.listed v lt e in absurd (omega (arith, at.1, at.2))
        | inr ne ↦ let at = end.search.listed_next v lt (omega arith) in absurd (omega (arith, at.1, at.2))
      ]
    ]
    | inr is ↦ absurd (omega (arith, is))
  ]

  level_of : (v : ℕ) → side found.level.items (2 + v) ≡ true → get_or found.level.items v 0 < none
  level_of v is = ltb-true (get_or found.level.items v 0) none (sym (side_step found.level.items v) ∙ is)

  side_of : (v : ℕ) → get_or found.level.items v 0 < none → side found.level.items (2 + v) ≡ true
  side_of v lt = side_step found.level.items v ∙ lt-ltb (get_or found.level.items v 0) none lt

  small_depth : end.depth ≤ 1024
  small_depth = omega (arith, end.search.deep, depth_few t on found.level.items found.labelled.items found.order.items (length found.order.items) (length found.order.items) (length found.order.items) end.depth end.depth end.search)

  from_step : (v w : ℕ) → v < t.count → w < t.count → Goes t on v w → side found.level.items (2 + v) ≡ true → side found.level.items (2 + w) ≡ true
  from_step v w v_lt w_lt goes is =
      let less : get_or found.level.items v 0 < end.depth = low_level v v_lt (level_of v is) in
      side_of w (omega (arith, end.search.done v w v_lt w_lt less goes, less, small_depth))

  closed : (a b : ℕ) → IsResidual (network_of t).arcs on a b → side found.level.items a ≡ true → side found.level.items b ≡ true
  closed a b (s, step) = each_open t on (λ a b. side found.level.items a ≡ true → side found.level.items b ≡ true)
      (λ v lt room is. side_of v (omega (arith, end.search.source v lt (record { arc = v; forward = true }, opens_leave t on v lt room))))
      (λ v lt is. refl)
      (λ v lt room is. absurd (end.search.dry v lt (low_level v lt (level_of v is)) (record { arc = t.count + v; forward = true }, opens_stand t on v lt room)))
      (λ v lt is. absurd (true≢false (sym is)))
      (λ k lt is. from_step (need_at t k).step (need_at t k).on (known k no_need lt).0 (known k no_need lt).1 (record { arc = t.count + (t.count + k); forward = true }, opens_link t on k lt) is)
      (λ k lt some is. from_step (need_at t k).on (need_at t k).step (known k no_need lt).1 (known k no_need lt).0 (record { arc = t.count + (t.count + k); forward = false }, opens_unlink t on k lt some) is)
      s a b step

  reached : (n v : ℕ) → v < t.count → get_or found.level.items v 0 ≡ n → n < none → Reaches (IsResidual (network_of t).arcs on) 0 (2 + v)
  reached zero v lt at less = from (end.search.back v lt (omega arith))
    where
      from : CameBy t on found.level.items v → Reaches (IsResidual (network_of t).arcs on) 0 (2 + v)
      from (inl (is, goes)) = next here goes
      from (inr (u, u_lt, step, up)) = absurd (omega arith)
  reached (suc n) v lt at less = from (end.search.back v lt (omega arith)) (λ u u_lt is. reached n u u_lt is (omega arith))
    where
      from : CameBy t on found.level.items v → ((u : ℕ) → u < t.count → get_or found.level.items u 0 ≡ n → Reaches (IsResidual (network_of t).arcs on) 0 (2 + u)) → Reaches (IsResidual (network_of t).arcs on) 0 (2 + v)
      from (inl (is, goes)) before = absurd (omega arith)
      from (inr (u, u_lt, step, up)) before = next (before u u_lt (omega arith)) step

  mark_is : (v : ℕ) → v < t.count → get_or (map is_level found.level.items) v false ≡ is_level (get_or found.level.items v 0)
  mark_is v lt = get_or-map is_level found.level.items v 0 false (omega (arith, end.search.sized))

  pub no_path : Reaches (IsResidual (network_of t).arcs on) 0 1 → ⊥
  no_path r = true≢false (sym (reached_in_closed (IsResidual (network_of t).arcs on) (side found.level.items) 0 1 refl closed r))

  pub largest_is : (f : ClosureFlow) → f.on.items ≡ on → f.reached.items ≡ map is_level found.level.items → IsNetwork (network_of t) → IsProgress (network_of t).nodes (network_of t).arcs on f.value f.rounds → IsLargest t f
  largest_is f same marked net progress = record {
    flow = rw same progress.flow;
    value = rw same progress.worth;
    greatest = closed_greatest (side found.level.items) (network_of t).nodes (network_of t).arcs on f.value (AreEnds-from_test (network_of t).nodes (network_of t).arcs net.ends) progress.flow progress.worth refl refl closed;
    cut = rw same no_path;
    rounds = rw same progress.reached;
    by_value = progress.few;
    by_size = rounds_le_size (network_of t).nodes (network_of t).arcs on f.rounds progress.budget;
    sized = ap length marked ∙ length-map found.level.items is_level ∙ end.search.sized;
    exact = λ v lt. rw (same, marked, mark_is v lt) (
      (λ is. reached (get_or found.level.items v 0) v lt refl (ltb-true (get_or found.level.items v 0) none is)),
      (λ r. sym (side_step found.level.items v) ∙ reached_in_closed (IsResidual (network_of t).arcs on) (side found.level.items) 0 (2 + v) refl closed r),
    );
  }

-- a search that begins with no step has its end
pub reach_begun : (t : Terms) (on : List ℕ) (found : Found) → length found.order.items ≡ 0 → IsSearch t on found.level.items found.labelled.items found.order.items 0 (length found.order.items) 0 0 0 → IsReach t on found
reach_begun t on found none begun = record {
  depth = 0;
  search = subst (λ n. IsSearch t on found.level.items found.labelled.items found.order.items n (length found.order.items) n 0 0) (sym none) begun;
}
