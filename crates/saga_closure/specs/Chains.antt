-- Chains of needs.
use Rattle.std.specs.Prelude.{ℕ, List, length, slice_index, ◌≡◌, ◌-◌}
use Rattle.saga_case.specs.Terms.{Terms}
use Rattle.saga_case.specs.Right.{IsListOfSteps, IsLinked}
use Rattle.saga_closure.specs.Layers.{GoesIn}

-- a chain of needs to this step, from a step to which the source has residual capacity
pub record IsChainTo (t : Terms) (on : List ℕ) (goal : ℕ) (chain : List ℕ) : Type 0 where
  pub steps : IsListOfSteps t chain
  pub linked : IsLinked t chain
  pub first : GoesIn t on (slice_index chain 0)
  pub last : slice_index chain (length chain - 1) ≡ goal
