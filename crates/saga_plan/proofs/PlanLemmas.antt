-- What a greatest flow of a case's network and the nodes reached in its residual network give: a right plan, whose kept
-- set is contained in every least set.
use Rattle.std.proofs.Common.{ℕ, ◌≡◌, ◌<◌, ◌≤◌, ◌+◌, ◌-◌, ◌*◌, ◌∙◌, ◌++◌, Bool, true, false, List, length, get_or, take, drop, ap, sym, subst, refl, arith, inl, inr}
use Rattle.std.specs.Prelude.{IsTrue}
use Rattle.std.proofs.lemmas.Bool.{cases_eq, cases_lt, false≢true}
use Rattle.std.proofs.lemmas.List.{get_or_past, length-drop, length-take-le, take-append-drop}
use Rattle.saga_def.specs.declared.steps.Price.TheVariants as price
use Rattle.saga_def.specs.Order.{Steps, member}
use Rattle.saga_def.specs.Rules.{AreKnown}
use Rattle.saga_case.specs.declared.answers.Plan.{Plan}
use Rattle.saga_case.specs.Terms.{Terms, cost_of, AtMost, IsLeast}
use Rattle.saga_case.specs.Flow.{IsWithin, IsConserved, value_of}
use Rattle.saga_case.specs.Right.{flow_of, HasShape, IsRightPlan}
use Rattle.saga_flow.specs.declared.nets.Arc.{Arc}
use Rattle.saga_flow.specs.Residual.{Joins, IsResidual}
use Rattle.saga_flow.specs.Reached.{Reaches, here, next}
use Rattle.saga_flow.specs.Rounds.{IsReachedIn}
use Rattle.saga_flow.proofs.NetLemmas.{AreEnds}
use Rattle.saga_flow.proofs.LeastCut.{IsCut, cut_bound, value_le_cut, arc_of, reached_is_cut, reached_value, reached_in_cut}
use Rattle.saga_closure.specs.CaseNet.{network_of}
use Rattle.saga_closure.specs.Largest.{IsLargest}
use Rattle.saga_closure.specs.declared.flows.ClosureFlow.{ClosureFlow}
use Rattle.saga_plan.specs.Making.{IsPlanOf}
use Rattle.saga_closure.proofs.ArcLemmas.{arcs_sized, each_arc}
use Rattle.saga_plan.proofs.CutCost.{steps_in, closed_same, cost_same, cut_is_cost, cut_is_allowed, side, side_step, allowed_is_cut, allowed_cost}
use Rattle.saga_plan.proofs.FlowLemmas.{groups, groups_within, groups_conserved, groups_value}

pub net_ends : (t : Terms) → AreKnown t.needs t.count → AreEnds (t.count + 2) (network_of t).arcs
net_ends t known = each_arc t (λ (a : Arc). (a.from < t.count + 2) × (a.to < t.count + 2))
    (λ s lt. (omega arith, omega (arith, lt)))
    (λ s lt. (omega (arith, lt), omega arith))
    (λ i d lt. (omega (arith, (known i d lt).0), omega (arith, (known i d lt).1)))

-- the head of a step is a node
head_within : (way : Bool) (nodes : ℕ) (a : Arc) (from to : ℕ) → (a.from < nodes) × (a.to < nodes) → Joins way a from to → to < nodes
head_within true nodes a from to ends joins = rw (← joins.1) ends.1
head_within false nodes a from to ends joins = rw (← joins.1) ends.0

-- what the source reaches are nodes
reached_node : (t : Terms) (on : List ℕ) → AreEnds (t.count + 2) (network_of t).arcs → (v : ℕ) → Reaches (IsResidual (network_of t).arcs on) 0 v → v < t.count + 2
reached_node t on ends v here = omega arith
reached_node t on ends v (next {mid} r step) =
    let found = arc_of (network_of t).arcs on step.0 mid v step.1 in
    head_within step.0.forward (t.count + 2) found.0 mid v (ends step.0.arc found.0 found.1) found.2

module _ (t : Terms) (flow : ClosureFlow) (known : AreKnown t.needs t.count) (solved : IsLargest t flow) where
  -- the source and the nodes of the steps reached
  abbrev nodes_in : ℕ → Bool
  nodes_in = side (member flow.reached.items)

  ends : AreEnds (t.count + 2) (network_of t).arcs
  ends = net_ends t known

  step_sound : (s : ℕ) → member flow.reached.items s ≡ true → Reaches (IsResidual (network_of t).arcs flow.on.items) 0 (2 + s)
  step_sound s test = elim (cases_lt s t.count) [
    | inl less ↦ (solved.exact s less).0 test
    | inr past ↦ absurd (false≢true (sym (get_or_past flow.reached.items s false (omega (arith, past, solved.sized))) ∙ test))
  ]

  step_whole : (s : ℕ) → Reaches (IsResidual (network_of t).arcs flow.on.items) 0 (2 + s) → member flow.reached.items s ≡ true
  step_whole s r = (solved.exact s (omega (arith, reached_node t flow.on.items ends (2 + s) r))).1 r

  sound : (v : ℕ) → nodes_in v ≡ true → Reaches (IsResidual (network_of t).arcs flow.on.items) 0 v
  sound v test = elim (cases_eq v 0) [
    | inl source ↦ rw source here
    | inr past ↦ elim (cases_eq v 1) [
      | inl sink ↦ absurd (false≢true (rw sink at test))
      | inr far ↦
          let e : 2 + (v - 2) ≡ v = omega (arith, past, far) in
          subst (λ x. Reaches (IsResidual (network_of t).arcs flow.on.items) 0 x) e (step_sound (v - 2) (sym (side_step (member flow.reached.items) (v - 2)) ∙ subst (λ x. nodes_in x ≡ true) (sym e) test))
    ]
  ]

  whole : (v : ℕ) → Reaches (IsResidual (network_of t).arcs flow.on.items) 0 v → nodes_in v ≡ true
  whole v r = elim (cases_eq v 0) [
    | inl source ↦ rw source refl
    | inr past ↦ elim (cases_eq v 1) [
      | inl sink ↦ absurd (solved.cut (rw sink at r))
      | inr far ↦
          let e : 2 + (v - 2) ≡ v = omega (arith, past, far) in
          subst (λ x. nodes_in x ≡ true) e (side_step (member flow.reached.items) (v - 2) ∙ step_whole (v - 2) (subst (λ x. Reaches (IsResidual (network_of t).arcs flow.on.items) 0 x) (sym e) r))
    ]
  ]

  cut : IsCut nodes_in (network_of t).arcs
  cut = reached_is_cut nodes_in (t.count + 2) (network_of t).arcs flow.on.items flow.value ends solved.flow solved.value sound whole solved.cut

  filled : flow.value ≡ cut_bound nodes_in (network_of t).arcs
  filled = reached_value nodes_in (t.count + 2) (network_of t).arcs flow.on.items flow.value ends solved.flow solved.value sound whole solved.cut

  cost_is : cost_of t (steps_in nodes_in) ≡ price.Of flow.value
  cost_is = cut_is_cost t nodes_in cut ∙ ap price.Of (sym filled)

  sizes : length flow.on.items ≡ t.count + (t.count + length t.needs)
  sizes = solved.flow.sized ∙ arcs_sized t

  module _ (plan : Plan) (made : IsPlanOf t.count flow plan) where
    kept_same : (s : ℕ) → steps_in nodes_in s ≡ member plan.kept s
    kept_same s = side_step (member flow.reached.items) s ∙ sym (ap (λ (marks : List Bool). get_or marks s false) made.kept)

    flow_same : groups t flow.on.items ≡ flow_of plan
    flow_same = rw (made.leave, made.stand, made.links) refl

    shape : HasShape t plan
    shape = record {
      kept = ap length made.kept ∙ solved.sized;
      leave = ap length made.leave ∙ length-take-le t.count flow.on.items (omega (arith, sizes));
      stand = ap length made.stand ∙ length-take-le t.count (drop t.count flow.on.items) (omega (arith, length-drop t.count flow.on.items, sizes));
      links = ap length made.links ∙ omega (arith, length-drop t.count (drop t.count flow.on.items), length-drop t.count flow.on.items, sizes);
    }

    pub plan_right : IsRightPlan t plan
    plan_right = record {
      shape = shape;
      closed = closed_same t.needs (steps_in nodes_in) (member plan.kept) kept_same (cut_is_allowed t nodes_in cut).closed;
      priced = sym (cost_same t (steps_in nodes_in) (member plan.kept) kept_same) ∙ cost_is ∙ ap price.Of (sym made.cost);
      within = subst (IsWithin t) flow_same (groups_within t flow.on.items solved.flow);
      conserved = subst (IsConserved t) flow_same (groups_conserved t flow.on.items sizes solved.flow);
      valued = sym (ap (value_of t) flow_same) ∙ groups_value t flow.on.items sizes flow.value solved.value ∙ sym made.cost;
    }

    -- the cost of each least set is the value
    least_filled : (other : Steps) → IsLeast t other → flow.value ≡ cut_bound (side other) (network_of t).arcs
    least_filled other least =
        let bound : ℕ = cut_bound (side other) (network_of t).arcs in
        let above : flow.value ≤ bound = value_le_cut (side other) (t.count + 2) (network_of t).arcs flow.on.items flow.value ends solved.flow solved.value (allowed_is_cut t other least.allowed) in
        let below : AtMost (price.Of bound) (price.Of flow.value) = rw (allowed_cost t other least.allowed, cost_is) at (least.least (steps_in nodes_in) (cut_is_allowed t nodes_in cut)) in
        omega (arith, above, below)

    pub plan_smallest : (other : Steps) → IsLeast t other → (s : ℕ) → IsTrue (member plan.kept s) → IsTrue (other s)
    plan_smallest other least s kept =
        sym (side_step other s) ∙
        reached_in_cut (side other) (t.count + 2) (network_of t).arcs flow.on.items flow.value ends solved.flow solved.value (allowed_is_cut t other least.allowed) (least_filled other least) (2 + s) (sound (2 + s) (kept_same s ∙ kept))

    pub plan_flow : (rounds : ℕ) → IsReachedIn (network_of t).arcs flow.on.items rounds → IsReachedIn (network_of t).arcs (plan.leave ++ (plan.stand ++ plan.links)) rounds
    plan_flow rounds made_in =
        let whole_flow : flow.on.items ≡ plan.leave ++ (plan.stand ++ plan.links) =
        rw (made.leave, made.stand, made.links) (sym (ap (λ (xs : List ℕ). take t.count flow.on.items ++ xs) (take-append-drop t.count (drop t.count flow.on.items)) ∙ take-append-drop t.count flow.on.items)) in
        subst (λ (xs : List ℕ). IsReachedIn (network_of t).arcs xs rounds) whole_flow made_in

pub few_rounds : (t : Terms) (rounds : ℕ) → rounds ≤ (t.count + 2) * length (network_of t).arcs → rounds ≤ (t.count + 2) * (2 * t.count + length t.needs)
few_rounds t rounds few =
    let e : length (network_of t).arcs ≡ 2 * t.count + length t.needs = omega (arith, arcs_sized t) in
    rw e at few
