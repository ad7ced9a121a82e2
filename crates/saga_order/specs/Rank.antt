-- The lengths of the chains of needs that start at a step.
use Rattle.std.specs.Prelude.{ℕ, List, Contains, length, slice_index, ◌≡◌, ◌<◌, ◌≤◌, ◌+◌, ◌⊎◌}
use Rattle.saga_def.specs.declared.steps.Need.{Need}
use Rattle.saga_def.specs.Order.{Leads}
use Rattle.saga_order.specs.Shape.{Shape}

-- the length of the longest chain of needs that starts at a step
pub record IsRank (needs : List Need) (b rank : ℕ) : Type 0 where
  pub reached : (a : ℕ) × Leads needs rank b a
  pub longest : (n a : ℕ) → Leads needs n b a → n ≤ rank

-- each step's rank
pub record AreRanks (shape : Shape) (ranks : List ℕ) : Type 0 where
  pub sized : length ranks ≡ shape.count
  pub each : (b : ℕ) → b < shape.count → IsRank shape.needs b (slice_index ranks b)

-- the minimum number above the rank of each needed step
pub record IsNextRank (needed ranks : List ℕ) (rank : ℕ) : Type 0 where
  pub above : (a : ℕ) → Contains needed a → slice_index ranks a < rank
  pub least : (rank ≡ 0) ⊎ ((a : ℕ) × Contains needed a × (rank ≡ slice_index ranks a + 1))
