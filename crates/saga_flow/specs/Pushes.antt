-- Augmentations along a path.
use Rattle.std.specs.Prelude.{ℕ, ◌≡◌, ◌≢◌, ◌+◌, ◌<◌, ◌≤◌, ◌^◌, List, [], ◌∷◌, length, slice_index, Bool, true, false, All}
use Rattle.saga_flow.specs.declared.nets.Arc.{Arc}
use Rattle.saga_flow.specs.declared.residual_arcs.ResidualArc.{ResidualArc}
use Rattle.saga_flow.specs.Residual.{Carries}
use Rattle.saga_flow.specs.Rounds.{pushed}

-- none of these residual arcs is over this arc
abbrev pub AvoidsArc : ℕ → List ResidualArc → Type 0
AvoidsArc k steps = All (λ (t : ResidualArc). t.arc ≢ k) steps

-- no two residual arcs are over the same arc
abbrev pub NoArcTwice : List ResidualArc → Type 0
NoArcTwice [] = Unit {0}
NoArcTwice (s ∷ steps) = AvoidsArc s.arc steps × NoArcTwice steps

-- the amount on an arc can be raised or lowered by `more`
abbrev pub FitsShift : Bool → ℕ → ℕ → Type 0
FitsShift true x more = x + more < 2 ^ 64
FitsShift false x more = more ≤ x

-- the residual arc is over an arc of the list, whose amount can be raised or lowered by `more`
abbrev pub CanShift : List ℕ → ℕ → ResidualArc → Type 0
CanShift on more s = (s.arc < length on) × FitsShift s.forward (slice_index on s.arc) more

-- an augmentation along a path by the maximum amount that it carries
pub record IsPush (arcs : List Arc) (on : List ℕ) (steps : List ResidualArc) (more : ℕ) (after : List ℕ) : Type 0 where
  pub some : 0 < more
  pub carries : All (Carries arcs on more) steps
  pub most : All (Carries arcs on (more + 1)) steps → ⊥
  pub adds : after ≡ pushed on steps more
