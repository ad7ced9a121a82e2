-- The optimization problem of a case: the cost of each set of steps, the allowed sets, and the minimum-cost sets.
use Rattle.std.specs.Prelude.{ℕ, List, length, slice_get, slice_index_or, option_map, unwrap_or, zero, suc, if◌then◌else◌, ◌≢◌, ◌≤◌}
use Rattle.saga_def.specs.declared.steps.Price.{Price}
use Rattle.saga_def.specs.declared.steps.Price.TheVariants.{Of, Never}
use Rattle.saga_def.specs.declared.steps.Step.{Step}
use Rattle.saga_def.specs.declared.steps.Need.{Need}
use Rattle.saga_def.specs.Order.{Steps, IsClosed}
use Rattle.saga_case.specs.declared.states.StepState.{StepState}
use Rattle.saga_case.specs.declared.states.StepState.TheVariants.{Waiting}
use Rattle.saga_case.specs.Prices.{plus, stand_of, leave_of}
use Rattle.saga_case.specs.Situation.{Situation}

-- the number of steps, their needs, and the two costs of each step
pub record Terms : Type 0 where
  pub count : ℕ
  pub needs : List Need
  pub leave : ℕ → Price
  pub stand : ℕ → Price

-- a cost of the step with this number by its state; never if there is no such step
abbrev pub price_by : (StepState → Step → Price) → Situation → ℕ → Price
price_by price c i = unwrap_or (option_map (price (slice_index_or c.states i Waiting)) (slice_get c.definition.steps i)) Never

abbrev pub terms_of : Situation → Terms
terms_of c = record {
  count = length c.definition.steps;
  needs = c.definition.needs;
  leave = price_by leave_of c;
  stand = price_by (stand_of c.aborted) c;
}

-- the cost of a step, by whether it is in the set
abbrev pub price_in : Terms → Steps → ℕ → Price
price_in t set i = if set i then t.stand i else t.leave i

-- the sum of the costs of the steps below a number
unfoldable pub prices_below : ℕ → (ℕ → Price) → Price
prices_below zero price = Of 0
prices_below (suc n) price = plus (prices_below n price) (price n)

-- the cost of a set: the sum of the costs to keep its members and to drop the others
abbrev pub cost_of : Terms → Steps → Price
cost_of t set = prices_below t.count (price_in t set)

-- an allowed set: it is dependency-closed, and its cost is a number
pub record IsAllowed (t : Terms) (set : Steps) : Type 0 where
  pub closed : IsClosed t.needs set
  pub priced : cost_of t set ≢ Never

-- at most another cost, where never is more than each number
abbrev pub AtMost : Price → Price → Type 0
AtMost (Of a) (Of b) = a ≤ b
AtMost (Of a) Never = Unit {0}
AtMost Never (Of b) = ⊥
AtMost Never Never = Unit {0}

-- a minimum-cost set: it is allowed, and no allowed set costs less
pub record IsLeast (t : Terms) (set : Steps) : Type 0 where
  pub allowed : IsAllowed t set
  pub least : (other : Steps) → IsAllowed t other → AtMost (cost_of t set) (cost_of t other)

-- no set of steps is allowed
pub record NoneIsAllowed (t : Terms) : Type 0 where
  pub none : (set : Steps) → IsAllowed t set → ⊥
