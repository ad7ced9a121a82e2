-- The part of a definition that an order uses.
use Rattle.std.specs.Prelude.{ℕ, List, length, ◌≤◌}
use Rattle.saga_def.specs.Limits.{max_steps}
use Rattle.saga_def.specs.declared.steps.Need.{Need}
use Rattle.saga_def.specs.Contents.{Contents}
use Rattle.saga_def.specs.Order.{IsAcyclic}
use Rattle.saga_def.specs.Rules.{AreKnown}

-- the number of steps, and the needs in the order of the input
pub record Shape : Type 0 where
  pub count : ℕ
  pub needs : List Need

abbrev pub shape : ℕ → List Need → Shape
shape count needs = record { count = count; needs = needs }

-- the shape of a definition
abbrev pub shape_of : Contents → Shape
shape_of c = shape (length c.steps) c.needs

-- the properties of each definition: the number of steps is within the limit, needs are between these steps, and no
-- step precedes itself
pub record IsOrdered (s : Shape) : Type 0 where
  pub few : s.count ≤ max_steps
  pub known : AreKnown s.needs s.count
  pub acyclic : IsAcyclic s.needs
