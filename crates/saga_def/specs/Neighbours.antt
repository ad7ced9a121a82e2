-- The neighbors of a step: the steps that it needs directly, and the steps that need it directly, with the indices of
-- these needs.
use Rattle.std.specs.Prelude.{ℕ, List, length, map, slice_index, slice_get, Some, Contains, ◌≡◌, ◌<◌}
use Rattle.std.specs.List.Sorted.{IsStrictlyIncreasing}
use Rattle.saga_def.specs.declared.steps.Need.{Need}
use Rattle.saga_def.specs.Contents.{Contents}
use Rattle.saga_def.specs.Order.{NeedsDirectly}
use Rattle.saga_def.specs.Adjacency.{places_at, needing, needed}

-- the indices of the needs of a step, ordered by the step that is needed
abbrev pub places_of : Contents → ℕ → List ℕ
places_of c i = places_at (needing c.needs) (needed c.needs) (length c.steps) i

-- the indices of the needs on a step, ordered by the step that has the need
abbrev pub places_on : Contents → ℕ → List ℕ
places_on c i = places_at (needed c.needs) (needing c.needs) (length c.steps) i

-- the steps that a step needs directly
abbrev pub needs_of : Contents → ℕ → List ℕ
needs_of c i = map (slice_index (needed c.needs)) (places_of c i)

-- the steps that need a step directly
abbrev pub needed_by : Contents → ℕ → List ℕ
needed_by c i = map (slice_index (needing c.needs)) (places_on c i)

-- the steps that b needs directly, in ascending order and each once
pub record AreNeedsOf (needs : List Need) (b : ℕ) (list : List ℕ) : Type 0 where
  pub ascending : IsStrictlyIncreasing list
  pub found : (a : ℕ) → Contains list a → NeedsDirectly needs b a
  pub all : (a : ℕ) → NeedsDirectly needs b a → Contains list a

-- the steps that need a directly, in ascending order and each once
pub record AreNeededBy (needs : List Need) (a : ℕ) (list : List ℕ) : Type 0 where
  pub ascending : IsStrictlyIncreasing list
  pub found : (b : ℕ) → Contains list b → NeedsDirectly needs b a
  pub all : (b : ℕ) → NeedsDirectly needs b a → Contains list b

abbrev pub a_need : ℕ → ℕ → Need
a_need step on = record { step = step; on = on }

-- the index of each need of b, in the order of the list of steps that b needs
pub record ArePlacesOf (needs : List Need) (b : ℕ) (list places : List ℕ) : Type 0 where
  pub sized : length places ≡ length list
  pub each : (j : ℕ) → j < length list → slice_get needs (slice_index places j) ≡ Some (a_need b (slice_index list j))

-- the index of each need on a, in the order of the list of steps that need a
pub record ArePlacesOn (needs : List Need) (a : ℕ) (list places : List ℕ) : Type 0 where
  pub sized : length places ≡ length list
  pub each : (j : ℕ) → j < length list → slice_get needs (slice_index places j) ≡ Some (a_need (slice_index list j) a)
