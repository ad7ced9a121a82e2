-- Reversed residual arcs, and residual arcs along unbounded arcs.
use Rattle.std.specs.Prelude.{ℕ, ◌≡◌, true, not, List, Some, slice_get}
use Rattle.saga_flow.specs.declared.nets.Arc.{Arc}
use Rattle.saga_flow.specs.declared.nets.Cap.TheVariants.{Unbounded}
use Rattle.saga_flow.specs.declared.residual_arcs.ResidualArc.{ResidualArc}
use Rattle.saga_flow.specs.Residual.{Leads}

-- the reverse of a residual arc
abbrev pub turned : ResidualArc → ResidualArc
turned s = record { arc = s.arc; forward = not s.forward }

-- a residual arc along an unbounded arc
abbrev pub IsEndless : List Arc → ResidualArc → Type 0
IsEndless arcs s = (s.forward ≡ true) × ((a : Arc) × (slice_get arcs s.arc ≡ Some a) × (a.cap ≡ Unbounded))

-- a residual arc along an unbounded arc leads from one node to another
abbrev pub LeadsEndless : List Arc → ResidualArc → ℕ → ℕ → Type 0
LeadsEndless arcs s from to = Leads arcs s from to × IsEndless arcs s
