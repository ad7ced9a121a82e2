-- The distance between the source and the sink.
use Rattle.std.specs.Prelude.{ℕ, List, ◌⊎◌, ◌≡◌, ◌+◌}
use Rattle.saga_flow.specs.declared.nets.Arc.{Arc}
use Rattle.saga_flow.specs.Levels.{IsLevelled}
use Rattle.saga_closure.specs.Capacities.{room_at}

-- a step without residual capacity from the source or without residual capacity to the sink
abbrev pub IsOneSided : List ℕ → List ℕ → ℕ → ℕ → Type 0
IsOneSided caps on count v = (room_at caps on v ≡ 0) ⊎ (room_at caps on (count + v) ≡ 0)

-- each path of residual arcs from the source to the sink has at least this number of arcs
pub record IsApart (arcs : List Arc) (on : List ℕ) (far : ℕ) : Type 0 where
  pub level : ℕ → ℕ
  pub levelled : IsLevelled arcs on level
  pub sink : level 1 ≡ far
