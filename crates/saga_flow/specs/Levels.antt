-- Levels of nodes, and residual arcs that increase the level by one.
use Rattle.std.specs.Prelude.{ℕ, ◌≡◌, ◌+◌, ◌≤◌, List}
use Rattle.saga_flow.specs.declared.nets.Arc.{Arc}
use Rattle.saga_flow.specs.declared.residual_arcs.ResidualArc.{ResidualArc}
use Rattle.saga_flow.specs.Residual.{Leads, IsOpen}

-- a residual arc that increases the level by one
abbrev pub Rises : List Arc → (ℕ → ℕ) → ResidualArc → ℕ → ℕ → Type 0
Rises arcs level s from to = Leads arcs s from to × (level to ≡ level from + 1)

-- an open residual arc that increases the level by one
abbrev pub Climbs : List Arc → List ℕ → (ℕ → ℕ) → ResidualArc → ℕ → ℕ → Type 0
Climbs arcs on level s from to = IsOpen arcs on s from to × (level to ≡ level from + 1)

-- no arc of the residual network increases the level by more than one
abbrev pub AreNear : List Arc → List ℕ → (ℕ → ℕ) → Type 0
AreNear arcs on level = (s : ResidualArc) (from to : ℕ) → IsOpen arcs on s from to → level to ≤ level from + 1

-- levels of the residual network
pub record IsLevelled (arcs : List Arc) (on : List ℕ) (level : ℕ → ℕ) : Type 0 where
  pub source : level 0 ≡ 0
  pub near : AreNear arcs on level

-- an open residual arc that decreases the distance by one
abbrev pub Nears : List Arc → List ℕ → (ℕ → ℕ) → ResidualArc → ℕ → ℕ → Type 0
Nears arcs on far s from to = IsOpen arcs on s from to × (far from ≡ far to + 1)
