-- A flow of a case's network, in its three groups, is a flow of the case.
use Rattle.std.proofs.Common.{ℕ, ◌≡◌, ◌<◌, ◌+◌, ◌∙◌, Bool, true, false, eqb, List, length, get_or, take, drop, ap, sym, refl, arith, inl, inr}
use Rattle.std.specs.Prelude.{if◌then◌else◌, ◌==◌}
use Rattle.std.proofs.lemmas.Bool.{cases_eq, eq-eqb, ne_eqb}
use Rattle.std.proofs.lemmas.List.{get_or-take, get_or-drop}
use Rattle.saga_def.specs.declared.steps.Need.{Need}
use Rattle.saga_def.specs.declared.steps.Price.{Price}
use Rattle.saga_def.specs.declared.steps.Price.TheVariants.{Of, Never}
use Rattle.saga_case.specs.Terms.{Terms}
use Rattle.saga_case.specs.Flow.{Flow, FitsIn, IsWithin, IsConserved, carried, sum_below, value_of}
use Rattle.saga_case.proofs.SumLemmas.{sum_same, sum_zero, sum_one}
use Rattle.saga_flow.specs.declared.nets.Arc.{Arc}
use Rattle.saga_flow.specs.Flows.{total, out_of, into, IsFlow, HasValue}
use Rattle.saga_flow.specs.Flows as flows
use Rattle.saga_closure.specs.CaseNet.{cap_of, leave_arc, stand_arc, network_of}
use Rattle.saga_closure.proofs.ArcLemmas.{total_network, carried_none, leave_at, stand_at}

-- the amounts on the three groups of arcs
abbrev pub groups : Terms → List ℕ → Flow
groups t on = record { leave = take t.count on; stand = take t.count (drop t.count on); links = drop t.count (drop t.count on) }

fits : (x y : ℕ) (p : Price) → x ≡ y → flows.IsWithin x (cap_of p) → FitsIn y p
fits x y (Of a) same within = omega (arith, same, within)
fits x y Never same within = tt

pub groups_within : (t : Terms) (on : List ℕ) → IsFlow (network_of t).arcs on → IsWithin t (groups t on)
groups_within t on flow = record {
  leave = λ s lt.
      fits (get_or on s 0) (get_or (take t.count on) s 0) (t.leave s) (sym (get_or-take t.count on s 0 lt))
      (flow.within s (leave_arc t s) (leave_at t s lt));
  stand = λ s lt.
      fits (get_or on (t.count + s) 0) (get_or (take t.count (drop t.count on)) s 0) (t.stand s)
      (sym (get_or-take t.count (drop t.count on) s 0 lt ∙ get_or-drop t.count on s 0))
      (flow.within (t.count + s) (stand_arc t s) (stand_at t s lt));
}

-- ---- shares

share_not : (b : Bool) (x : ℕ) → b ≡ false → (if b then x else 0) ≡ 0
share_not b x h = rw h refl

share_yes : (b : Bool) (x : ℕ) → b ≡ true → (if b then x else 0) ≡ x
share_yes b x h = rw h refl

node_same : (a b : ℕ) → eqb (2 + a) (2 + b) ≡ eqb a b
node_same a b = elim (cases_eq a b) [
  | inl same ↦ eq-eqb (2 + a) (2 + b) (omega (arith, same)) ∙ sym (eq-eqb a b same)
  | inr apart ↦ ne_eqb (2 + a) (2 + b) (λ e. apart (omega (arith, e))) ∙ sym (ne_eqb a b apart)
]

-- of a group whose arcs are at the nodes of the steps in turn, the share of one step
group_at : (n s : ℕ) (on : List ℕ) → s < n → sum_below n (λ k. if 2 + k == 2 + s then get_or on k 0 else 0) ≡ get_or on s 0
group_at n s on lt =
    sum_one n s (λ k. if 2 + k == 2 + s then get_or on k 0 else 0) lt
    (λ k less apart. share_not (eqb (2 + k) (2 + s)) (get_or on k 0) (ne_eqb (2 + k) (2 + s) (λ e. apart (omega (arith, e)))))
    ∙ share_yes (eqb (2 + s) (2 + s)) (get_or on s 0) (eq-eqb (2 + s) (2 + s) refl)

group_none : (n : ℕ) (test : ℕ → Bool) (on : List ℕ) → ((k : ℕ) → test k ≡ false) → sum_below n (λ k. if test k then get_or on k 0 else 0) ≡ 0
group_none n test on fails = sum_zero n _ (λ k lt. share_not (test k) (get_or on k 0) (fails k))

group_all : (n : ℕ) (on : List ℕ) → sum_below n (λ k. if 0 == 0 then get_or on k 0 else 0) ≡ sum_below n (λ k. get_or on k 0)
group_all n on = refl

link_share : (end : Need → ℕ) (s : ℕ) (n : Need) (x : ℕ) → (if 2 + end n == 2 + s then x else 0) ≡ (if end n == s then x else 0)
link_share end s n x = ap (λ (b : Bool). if b then x else 0) (node_same (end n) s)

module _ (t : Terms) (on : List ℕ) (sized : length on ≡ t.count + (t.count + length t.needs)) where
  rest : List ℕ
  rest = drop t.count on

  into_node : (s : ℕ) → s < t.count → into (network_of t).arcs on (2 + s) ≡ get_or on s 0 + carried (λ (n : Need). n.on == s) t.needs (drop t.count (drop t.count on))
  into_node s lt = omega (
    arith,
    total_network t (λ (a : Arc) x. if a.to == 2 + s then x else 0) (λ (n : Need). n.on == s) on sized (link_share (λ (n : Need). n.on) s),
    group_at t.count s on lt,
    group_none t.count (λ k. 1 == 2 + s) (drop t.count on) (λ k. ne_eqb 1 (2 + s) (λ e. absurd (omega (arith, e)))),
  )

  out_of_node : (s : ℕ) → s < t.count → out_of (network_of t).arcs on (2 + s) ≡ get_or (drop t.count on) s 0 + carried (λ (n : Need). n.step == s) t.needs (drop t.count (drop t.count on))
  out_of_node s lt = omega (
    arith,
    total_network t (λ (a : Arc) x. if a.from == 2 + s then x else 0) (λ (n : Need). n.step == s) on sized (link_share (λ (n : Need). n.step) s),
    group_at t.count s (drop t.count on) lt,
    group_none t.count (λ k. 0 == 2 + s) on (λ k. ne_eqb 0 (2 + s) (λ e. absurd (omega (arith, e)))),
  )

  pub groups_conserved : IsFlow (network_of t).arcs on → IsConserved t (groups t on)
  groups_conserved flow = record {
    at_step = λ s lt. omega (
      arith,
      into_node s lt,
      out_of_node s lt,
      flow.conserved (2 + s) (λ e. absurd (omega (arith, e))) (λ e. absurd (omega (arith, e))),
      get_or-take t.count on s 0 lt,
      get_or-take t.count (drop t.count on) s 0 lt,
    );
  }

  never_node : (node : ℕ) → node ≡ 0 → (v : ℕ) → eqb (2 + v) node ≡ false
  never_node node is v = ne_eqb (2 + v) node (λ e. absurd (omega (arith, e, is)))

  into_source : into (network_of t).arcs on 0 ≡ 0
  into_source = omega (
    arith,
    total_network t (λ (a : Arc) x. if a.to == 0 then x else 0) (λ (n : Need). false) on sized (λ n x. share_not (eqb (2 + n.on) 0) x (never_node 0 refl n.on)),
    group_none t.count (λ k. 2 + k == 0) on (never_node 0 refl),
    group_none t.count (λ k. 1 == 0) (drop t.count on) (λ k. refl),
    carried_none (λ (n : Need). false) t.needs (drop t.count (drop t.count on)) (λ n. refl),
  )

  out_of_source : out_of (network_of t).arcs on 0 ≡ sum_below t.count (λ s. get_or on s 0)
  out_of_source = omega (
    arith,
    total_network t (λ (a : Arc) x. if a.from == 0 then x else 0) (λ (n : Need). false) on sized (λ n x. share_not (eqb (2 + n.step) 0) x (never_node 0 refl n.step)),
    group_none t.count (λ k. 2 + k == 0) (drop t.count on) (never_node 0 refl),
    carried_none (λ (n : Need). false) t.needs (drop t.count (drop t.count on)) (λ n. refl),
  )

  pub groups_value : (value : ℕ) → HasValue (network_of t).arcs on value → value_of t (groups t on) ≡ value
  groups_value value worth =
      sum_same t.count (λ s. get_or (take t.count on) s 0) (λ s. get_or on s 0) (λ s lt. get_or-take t.count on s 0 lt)
      ∙ omega (arith, into_source, out_of_source, worth)
