-- A topological order of the steps: each comes after all steps that it needs.
use Rattle.std.specs.Prelude.{ℕ, Bool, List, All, Contains, length, take, slice_index, slice_index_or, count_by, not, true, false, ◌≡◌, ◌<◌, ◌≤◌, ◌+◌, ◌⊎◌}
use Rattle.saga_def.specs.Order.{NeedsDirectly, Precedes}
use Rattle.saga_order.specs.Shape.{Shape}

-- whether a step is marked
abbrev pub is_marked : List Bool → ℕ → Bool
is_marked marks s = slice_index_or marks s false

-- each step comes after all steps that it needs
pub record IsTopological (shape : Shape) (order : List ℕ) : Type 0 where
  pub within : All (λ s. s < shape.count) order
  pub earlier : (k a : ℕ) → k < length order → NeedsDirectly shape.needs (slice_index order k) a → Contains (take k order) a

-- all steps, each after all steps that it needs
pub record IsTopologicalOrder (shape : Shape) (order : List ℕ) : Type 0 where
  pub in_order : IsTopological shape order
  pub few : length order ≤ shape.count
  pub all : (s : ℕ) → s < shape.count → Contains order s

-- each visited step is in the list, or a chain of needs leads from it to `step`
pub record AreAbove (shape : Shape) (visited : List Bool) (order : List ℕ) (step : ℕ) : Type 0 where
  pub above : (s : ℕ) → is_marked visited s ≡ true → Contains order s ⊎ Precedes shape.needs step s

-- the result of a visit of a step and of all steps that it needs
pub record HasVisited (shape : Shape) (visited : List Bool) (order : List ℕ) (step : ℕ) (visited' : List Bool) (order' : List ℕ) : Type 0 where
  pub in_order : IsTopological shape order'
  pub sized : length visited' ≡ length visited
  pub listed : Contains order' step
  pub kept : (s : ℕ) → Contains order s → Contains order' s
  pub settled : (s : ℕ) → is_marked visited' s ≡ true → Contains order' s ⊎ (is_marked visited s ≡ true)
  pub fewer : count_by not visited' ≤ count_by not visited
  pub room : length order' + count_by not visited' ≤ length order + count_by not visited
