-- The state of a search, and its paths, over a residual network.
use Rattle.std.specs.Prelude.{ℕ, List}
use Rattle.saga_flow.specs.declared.residual_arcs.ResidualArc.{ResidualArc}
use Rattle.saga_flow.specs.Levels.{Climbs}
use Rattle.saga_flow.specs.Rounds.{IsTrail}
use Rattle.saga_closure.specs.declared.nets.Residual.{Residual}
use Rattle.saga_closure.specs.declared.searching.Found.{Found}
use Rattle.saga_closure.specs.Capacities.{room_at}
use Rattle.saga_closure.specs.Nets.{terms_in, arcs_in}
use Rattle.saga_closure.specs.Layers.{IsStart, node_level}

-- the residual capacity from the source to a step
abbrev pub room_in : Residual → ℕ → ℕ
room_in r = room_at r.net.now.caps.now r.on.now

-- exactly the steps to which the source has residual capacity have level 0
abbrev pub IsStarted : Residual → Found → Type 0
IsStarted r f = IsStart (room_in r) (terms_in r.net.now).count f.level.items f.labelled.items f.order.items (terms_in r.net.now).count

-- residual arcs from the source to the sink, each of which increases the level by one
abbrev pub IsClimb : Residual → ℕ → List ℕ → List ResidualArc → Type 0
IsClimb r depth level path = IsTrail (Climbs (arcs_in r.net.now) r.on.now (node_level depth level)) 0 path 1
