-- The chain that is found is right; otherwise a greatest flow and the steps that the source reaches give a plan.
use Rattle.std.proofs.Common.{◌≡◌, ◌∙◌, ap, length, arith}
use Rattle.std.proofs.lemmas.Bool.{false≢true}
use Rattle.saga_def.specs.Contents.{Contents}
use Rattle.saga_case.specs.Free.{none}
use Rattle.saga_case.specs.Terms.{Terms, terms_of}
use Rattle.saga_case.specs.Right.{IsRightPlan, IsRightChain}
use Rattle.saga_case.proofs.ChainLemmas.{NoneIsAllowed-chain}
use Rattle.saga_case.proofs.Duality.{IsLeast-plan}
use Rattle.saga_closure.specs.Largest.{IsLargest}
use Rattle.saga_closure.proofs.ArcLemmas.{arcs_sized}
use Rattle.saga_plan.specs.Making.{IsPlanOf}
use Rattle.saga_plan.proofs.PlanLemmas.{plan_right, plan_smallest, plan_flow, few_rounds}
use Rattle.saga_plan.proofs.planning.plan_counted.Goals as goal
use Rattle.saga_plan.proofs.planning.plan_counted.Goals.{In-Blocked, In-Flow, In_ok-plan-in-Flow}

-- ---- the chain

right_chain : (c : In-Blocked) → IsRightChain (terms_of c.args.case.now) c.in-Blocked.chain.items
right_chain c = rw c.in-Blocked.is at c.in_ok-chain.ensures

pub returns-in-Blocked-clause-right : goal.returns-in-Blocked-clause-right
returns-in-Blocked-clause-right c = rw c.new.ensures (right_chain (goal.at.returns-in-Blocked-clause-right c).In-Blocked)

pub returns-in-Blocked-clause-settles : goal.returns-in-Blocked-clause-settles
returns-in-Blocked-clause-settles c =
    NoneIsAllowed-chain (terms_of c.args.case.now) c.in-Blocked.chain.items (right_chain (goal.at.returns-in-Blocked-clause-settles c).In-Blocked)

pub returns-in-Blocked-clause-backward : goal.returns-in-Blocked-clause-backward
returns-in-Blocked-clause-backward c free =
    (NoneIsAllowed-chain (terms_of c.args.case.now) c.in-Blocked.chain.items (right_chain (goal.at.returns-in-Blocked-clause-backward c).In-Blocked)).none none (c.leaves_all_out_for_free.ensures free).allowed

-- ---- the plan

largest : (c : In-Flow) → IsLargest (terms_of c.args.case.now) c.in-Flow.flow
largest c = rw c.in-Flow.is at c.in_ok-chain.ensures

pub plan_of-requires : goal.plan_of-requires
plan_of-requires c =
    let t : Terms = terms_of c.args.case.now in
    let count : c.steps-steps.result ≡ t.count = c.steps-steps.ensures.count ∙ ap (λ (d : Contents). length d.steps) c.definition.ensures.value in
    omega (arith, (largest (goal.at.plan_of-requires c).In-Flow).flow.sized, arcs_sized t, count)

-- steps as the case counts them
made : (c : In_ok-plan-in-Flow) → IsPlanOf (terms_of c.args.case.now).count c.in-Flow.flow c.in_ok-plan-in-Flow.plan
made c = rw (c.steps-steps.ensures.count, c.definition.ensures.value) at c.in_ok-plan-in-Flow.ensures

right : (c : In_ok-plan-in-Flow) → IsLargest (terms_of c.args.case.now) c.in-Flow.flow → IsRightPlan (terms_of c.args.case.now) c.in_ok-plan-in-Flow.plan
right c most = plan_right (terms_of c.args.case.now) c.in-Flow.flow c.definition.ensures.at_rest.sound.known most c.in_ok-plan-in-Flow.plan (made c)

pub returns-in_ok-plan-in-Flow-clause-right : goal.returns-in_ok-plan-in-Flow-clause-right
returns-in_ok-plan-in-Flow-clause-right c = let at = goal.at.returns-in_ok-plan-in-Flow-clause-right c in right at.In_ok-plan-in-Flow (largest at.In-Flow)

pub returns-in_ok-plan-in-Flow-clause-settles : goal.returns-in_ok-plan-in-Flow-clause-settles
returns-in_ok-plan-in-Flow-clause-settles c =
    let at = goal.at.returns-in_ok-plan-in-Flow-clause-settles c in
    IsLeast-plan (terms_of c.args.case.now) c.in_ok-plan-in-Flow.plan c.definition.ensures.at_rest.sound.known (right at.In_ok-plan-in-Flow (largest at.In-Flow))

pub returns-in_ok-plan-in-Flow-clause-smallest : goal.returns-in_ok-plan-in-Flow-clause-smallest
returns-in_ok-plan-in-Flow-clause-smallest c =
    let at = goal.at.returns-in_ok-plan-in-Flow-clause-smallest c in
    plan_smallest (terms_of c.args.case.now) c.in-Flow.flow c.definition.ensures.at_rest.sound.known (largest at.In-Flow) c.in_ok-plan-in-Flow.plan (made at.In_ok-plan-in-Flow)

-- where all is free, no set is least but what contains the kept one, and the empty set is least
pub returns-in_ok-plan-in-Flow-clause-backward : goal.returns-in_ok-plan-in-Flow-clause-backward
returns-in_ok-plan-in-Flow-clause-backward c free s kept =
    let at = goal.at.returns-in_ok-plan-in-Flow-clause-backward c in
    false≢true (plan_smallest (terms_of c.args.case.now) c.in-Flow.flow c.definition.ensures.at_rest.sound.known (largest at.In-Flow) c.in_ok-plan-in-Flow.plan (made at.In_ok-plan-in-Flow) none (c.leaves_all_out_for_free.ensures free) s kept)

pub returns-in_ok-plan-in-Flow-clause-rounds : goal.returns-in_ok-plan-in-Flow-clause-rounds
returns-in_ok-plan-in-Flow-clause-rounds c =
    let at = goal.at.returns-in_ok-plan-in-Flow-clause-rounds c in
    let most = largest at.In-Flow in
    plan_flow (terms_of c.args.case.now) c.in-Flow.flow c.definition.ensures.at_rest.sound.known most c.in_ok-plan-in-Flow.plan (made at.In_ok-plan-in-Flow) c.in-Flow.flow.rounds most.rounds

pub returns-in_ok-plan-in-Flow-clause-by_size : goal.returns-in_ok-plan-in-Flow-clause-by_size
returns-in_ok-plan-in-Flow-clause-by_size c = few_rounds (terms_of c.args.case.now) c.in-Flow.flow.rounds (largest (goal.at.returns-in_ok-plan-in-Flow-clause-by_size c).In-Flow).by_size
