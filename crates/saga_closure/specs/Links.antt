-- The residual arcs over the needs of a step, in both directions.
use Rattle.std.specs.Prelude.{ℕ, Bool, List, length, slice_index, slice_get, Some, IsTrue, if◌then◌else◌, ◌⊎◌, ◌≡◌, ◌<◌, ◌+◌}
use Rattle.saga_def.specs.declared.steps.Need.{Need}
use Rattle.saga_def.specs.Neighbours.{a_need}
use Rattle.saga_flow.specs.declared.residual_arcs.ResidualArc.{ResidualArc}
use Rattle.saga_closure.specs.declared.nets.Residual.{Residual}
use Rattle.saga_closure.specs.Nets.{terms_in}
use Rattle.saga_closure.specs.Layers.{none}

-- the need of a residual arc from one step to another, along the need or back
abbrev pub need_over : Bool → ℕ → ℕ → Need
need_over forward from to = if forward then a_need from to else a_need to from

-- the residual arc over the need at an index
abbrev pub arc_over : ℕ → Bool → ℕ → ResidualArc
arc_over count forward k = record { arc = count + (count + k); forward = forward }

-- a residual arc over a need has residual capacity: forward always, backward if the amount of the need is positive
abbrev pub LetsThrough : List ℕ → ResidualArc → Type 0
LetsThrough on over = IsTrue over.forward ⊎ (0 < slice_index on over.arc)

-- the steps to which residual arcs of a direction lead over the needs of a step, and the index of the need of each
pub record AreLinks (needs : List Need) (count : ℕ) (forward : Bool) (v : ℕ) (steps places : List ℕ) : Type 0 where
  pub sized : length places ≡ length steps
  pub inside : (e : ℕ) → e < length steps → slice_index steps e < count
  pub each : (e : ℕ) → e < length steps → slice_get needs (slice_index places e) ≡ Some (need_over forward v (slice_index steps e))
  pub all : (k w : ℕ) → slice_get needs k ≡ Some (need_over forward v w) → (e : ℕ) × (e < length steps) × (slice_index steps e ≡ w) × (slice_index places e ≡ k)

-- each step has its level, or no level if walks have given it up
abbrev pub IsThinned : List ℕ → List ℕ → Type 0
IsThinned level alive = (v : ℕ) → (slice_index alive v ≡ slice_index level v) ⊎ (slice_index alive v ≡ none)

-- no residual arc of a direction leads to a step from a step one level below `far`
abbrev pub NoneBefore : Residual → ℕ → List ℕ → Bool → ℕ → Type 0
NoneBefore r far level forward v =
    (k w : ℕ) → slice_get (terms_in r.net.now).needs k ≡ Some (need_over forward w v) → LetsThrough r.on.now (arc_over (terms_in r.net.now).count forward k) → far ≡ slice_index level w + 1 → ⊥
