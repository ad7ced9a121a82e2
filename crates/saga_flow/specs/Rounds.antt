-- Rounds: a flow is reached from the empty one by augmentations along shortest paths by the maximum amount.
use Rattle.std.specs.Prelude.{ℕ, ◌≡◌, ◌+◌, ◌-◌, ◌<◌, ◌≤◌, if◌then◌else◌, List, [], ◌∷◌, length, replicate, slice_index, slice_set, All}
use Rattle.saga_flow.specs.declared.nets.Arc.{Arc}
use Rattle.saga_flow.specs.declared.residual_arcs.ResidualArc.{ResidualArc}
use Rattle.saga_flow.specs.Residual.{Carries, IsOpen}

-- the residual arcs lead one after the other from one node to another
abbrev pub IsTrail : (ResidualArc → ℕ → ℕ → Type 0) → ℕ → List ResidualArc → ℕ → Type 0
IsTrail R from [] to = from ≡ to
IsTrail R from (s ∷ steps) to = (mid : ℕ) × R s from mid × IsTrail R mid steps to

-- open residual arcs from source to sink
abbrev pub IsChain : List Arc → List ℕ → List ResidualArc → Type 0
IsChain arcs on steps = IsTrail (IsOpen arcs on) 0 steps 1

-- the amounts after `more` is sent along one residual arc
abbrev pub shifted : List ℕ → ResidualArc → ℕ → List ℕ
shifted on s more =
    slice_set on s.arc (if s.forward then slice_index on s.arc + more else slice_index on s.arc - more)

-- the amounts after `more` is sent along each of these residual arcs
abbrev pub pushed : List ℕ → List ResidualArc → ℕ → List ℕ
pushed on [] more = on
pushed on (s ∷ steps) more = pushed (shifted on s more) steps more

-- one round: an augmentation along a chain with the minimum number of arcs by the maximum amount that it carries
pub record IsRound (arcs : List Arc) (on after : List ℕ) : Type 0 where
  pub steps : List ResidualArc
  pub more : ℕ
  pub chain : IsChain arcs on steps
  pub fewest : (other : List ResidualArc) → IsChain arcs on other → length steps ≤ length other
  pub some : 0 < more
  pub carries : All (Carries arcs on more) steps
  pub most : All (Carries arcs on (more + 1)) steps → ⊥
  pub adds : after ≡ pushed on steps more

-- the empty flow is reached in no round; another flow by one more round
pub data IsReachedIn (arcs : List Arc) : List ℕ → ℕ → Type 0 where
  none : IsReachedIn arcs (replicate (length arcs) 0) 0
  more : {on : List ℕ} {rounds : ℕ} (after : List ℕ) → IsReachedIn arcs on rounds → IsRound arcs on after → IsReachedIn arcs after (rounds + 1)
