-- When an answer to a case is right.
use Rattle.std.specs.Prelude.{ℕ, List, length, slice_index, All, ◌≡◌, ◌<◌, ◌+◌, ◌-◌}
use Rattle.saga_def.specs.declared.steps.Price.TheVariants.{Of, Never}
use Rattle.saga_def.specs.Order.{NeedsDirectly, IsClosed, member}
use Rattle.saga_case.specs.declared.answers.Plan.{Plan}
use Rattle.saga_case.specs.declared.answers.Answer.{Answer}
use Rattle.saga_case.specs.declared.answers.Answer.TheVariants as answer
use Rattle.saga_case.specs.Terms.{Terms, cost_of, IsLeast, NoneIsAllowed}
use Rattle.saga_case.specs.Flow.{Flow, IsWithin, IsConserved, value_of}

abbrev pub flow_of : Plan → Flow
flow_of plan = record { leave = plan.leave; stand = plan.stand; links = plan.links }

-- one mark and two amounts for each step, one amount for each need
pub record HasShape (t : Terms) (plan : Plan) : Type 0 where
  pub kept : length plan.kept ≡ t.count
  pub leave : length plan.leave ≡ t.count
  pub stand : length plan.stand ≡ t.count
  pub links : length plan.links ≡ length t.needs

-- the kept set is dependency-closed, the plan's cost is that of the set, and the flow is one of the case with that
-- value
pub record IsRightPlan (t : Terms) (plan : Plan) : Type 0 where
  pub shape : HasShape t plan
  pub closed : IsClosed t.needs (member plan.kept)
  pub priced : cost_of t (member plan.kept) ≡ Of plan.cost
  pub within : IsWithin t (flow_of plan)
  pub conserved : IsConserved t (flow_of plan)
  pub valued : value_of t (flow_of plan) ≡ plan.cost

-- not empty, and each number is that of a step
pub record IsListOfSteps (t : Terms) (chain : List ℕ) : Type 0 where
  pub some : 0 < length chain
  pub known : All (λ s. s < t.count) chain

-- each step needs the next directly
pub record IsLinked (t : Terms) (chain : List ℕ) : Type 0 where
  pub each : (k : ℕ) → k + 1 < length chain → NeedsDirectly t.needs (slice_index chain k) (slice_index chain (k + 1))

-- the first step cannot be dropped
abbrev pub IsForced : Terms → List ℕ → Type 0
IsForced t chain = t.leave (slice_index chain 0) ≡ Never

-- the last step cannot be kept
abbrev pub IsForbidden : Terms → List ℕ → Type 0
IsForbidden t chain = t.stand (slice_index chain (length chain - 1)) ≡ Never

-- a chain from a step that cannot be dropped to one that cannot be kept
pub record IsRightChain (t : Terms) (chain : List ℕ) : Type 0 where
  pub steps : IsListOfSteps t chain
  pub forced : IsForced t chain
  pub linked : IsLinked t chain
  pub forbidden : IsForbidden t chain

abbrev pub IsRight : Terms → Answer → Type 0
IsRight t (answer.Plan plan) = IsRightPlan t plan
IsRight t (answer.Blocked chain) = IsRightChain t chain

-- the consequence of a right answer: the kept set is a minimum-cost set, or no set is allowed
abbrev pub Settles : Terms → Answer → Type 0
Settles t (answer.Plan plan) = IsLeast t (member plan.kept)
Settles t (answer.Blocked chain) = NoneIsAllowed t
