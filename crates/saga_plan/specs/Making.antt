-- The plan of a maximum flow.
use Rattle.std.specs.Prelude.{ℕ, take, drop, ◌≡◌}
use Rattle.saga_case.specs.declared.answers.Plan.{Plan}
use Rattle.saga_closure.specs.declared.flows.ClosureFlow.{ClosureFlow}

-- the plan keeps the reached steps; its amounts are those of the flow, in three groups
pub record IsPlanOf (steps : ℕ) (flow : ClosureFlow) (plan : Plan) : Type 0 where
  pub kept : plan.kept ≡ flow.reached.items
  pub cost : plan.cost ≡ flow.value
  pub leave : plan.leave ≡ take steps flow.on.items
  pub stand : plan.stand ≡ take steps (drop steps flow.on.items)
  pub links : plan.links ≡ drop steps (drop steps flow.on.items)
