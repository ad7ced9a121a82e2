-- Laws of the values of flows, for every network.
use Rattle.std.specs.Prelude.{◌≡◌, ℕ, List}
use Rattle.saga_flow.specs.Flows.{IsFlow, IsGreatest, HasValue}
use Rattle.saga_flow.specs.declared.nets.Arc.{Arc}

-- amounts have one value
abbrev pub HasOneValue : List Arc → Type 0
HasOneValue arcs = (on : List ℕ) (v w : ℕ) → HasValue arcs on v → HasValue arcs on w → v ≡ w

-- a flow with this value, and no flow has a larger value
pub record IsGreatestFlow (arcs : List Arc) (on : List ℕ) (value : ℕ) : Type 0 where
  pub flow : IsFlow arcs on
  pub worth : HasValue arcs on value
  pub greatest : IsGreatest arcs value

-- all maximum flows have the same value
abbrev pub HasOneGreatest : List Arc → Type 0
HasOneGreatest arcs = (on other : List ℕ) (v w : ℕ) → IsGreatestFlow arcs on v → IsGreatestFlow arcs other w → v ≡ w
