-- Which steps are in an allowed set, by their states.
use Rattle.std.specs.Prelude.{ℕ, List, slice_get, Some, IsTrue, ◌≡◌}
use Rattle.saga_def.specs.Order.{Steps}
use Rattle.saga_case.specs.declared.states.StepState.{StepState}
use Rattle.saga_case.specs.Terms.{Terms, IsAllowed}

-- each allowed set has this property
abbrev pub AllowedSets : Terms → (Steps → Type 0) → Type 0
AllowedSets t Has = (set : Steps) → IsAllowed t set → Has set

-- no step with this state is in the set
abbrev pub HasNone : List StepState → StepState → Steps → Type 0
HasNone states state set = (step : ℕ) → slice_get states step ≡ Some state → ¬ IsTrue (set step)

-- each step with this state is in the set
abbrev pub HasEach : List StepState → StepState → Steps → Type 0
HasEach states state set = (step : ℕ) → slice_get states step ≡ Some state → IsTrue (set step)
