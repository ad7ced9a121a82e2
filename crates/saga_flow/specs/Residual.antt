-- The residual network for amounts on arcs: an arc with residual capacity, or the reverse of an arc with a positive
-- amount.
use Rattle.std.specs.Prelude.{ℕ, ◌≡◌, ◌+◌, ◌≤◌, Bool, true, false, List, Some, slice_get, slice_index}
use Rattle.saga_flow.specs.declared.nets.Arc.{Arc}
use Rattle.saga_flow.specs.declared.nets.Cap.{Cap}
use Rattle.saga_flow.specs.declared.residual_arcs.ResidualArc.{ResidualArc}
use Rattle.saga_flow.specs.Flows.{IsWithin}

-- the direction of an arc: along it, or against it
abbrev pub Joins : Bool → Arc → ℕ → ℕ → Type 0
Joins true a from to = (a.from ≡ from) × (a.to ≡ to)
Joins false a from to = (a.to ≡ from) × (a.from ≡ to)

-- a residual arc leads from one node to another
abbrev pub Leads : List Arc → ResidualArc → ℕ → ℕ → Type 0
Leads arcs s from to = (a : Arc) × (slice_get arcs s.arc ≡ Some a) × Joins s.forward a from to

-- an arc with amount x can take `more` along it within its capacity, or `more` against it within its amount
abbrev pub HasRoom : Bool → Cap → ℕ → ℕ → Type 0
HasRoom true cap x more = IsWithin (x + more) cap
HasRoom false cap x more = more ≤ x

-- a residual arc has residual capacity for `more`
abbrev pub Carries : List Arc → List ℕ → ℕ → ResidualArc → Type 0
Carries arcs on more s = (a : Arc) × (slice_get arcs s.arc ≡ Some a) × HasRoom s.forward a.cap (slice_index on s.arc) more

-- a residual arc with residual capacity leads from one node to another
abbrev pub IsOpen : List Arc → List ℕ → ResidualArc → ℕ → ℕ → Type 0
IsOpen arcs on s from to = Leads arcs s from to × Carries arcs on 1 s

-- an arc of the residual network
abbrev pub IsResidual : List Arc → List ℕ → ℕ → ℕ → Type 0
IsResidual arcs on from to = (s : ResidualArc) × IsOpen arcs on s from to
