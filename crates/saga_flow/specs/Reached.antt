-- The nodes that a node reaches by a relation, and paths as lists of nodes.
use Rattle.std.specs.Prelude.{ℕ, ◌≡◌, List, [], ◌∷◌, Some, slice_get}
use Rattle.saga_flow.specs.declared.nets.Arc.{Arc}
use Rattle.saga_flow.specs.declared.nets.Cap.TheVariants.{Unbounded}

-- a node reaches itself, and each successor of a node that it reaches
pub data Reaches (R : ℕ → ℕ → Type 0) (from : ℕ) : ℕ → Type 0 where
  here : Reaches R from from
  next : {mid to : ℕ} → Reaches R from mid → R mid to → Reaches R from to

-- an unbounded arc leads from one node to another
abbrev pub HasUnbounded : List Arc → ℕ → ℕ → Type 0
HasUnbounded arcs from to =
    (k : ℕ) × (a : Arc) × (slice_get arcs k ≡ Some a) × (a.from ≡ from) × (a.to ≡ to) × (a.cap ≡ Unbounded)

-- a list of nodes, each related to the next, that ends at a node
abbrev pub IsPath : (ℕ → ℕ → Type 0) → List ℕ → ℕ → Type 0
IsPath R [] to = ⊥
IsPath R (u ∷ []) to = u ≡ to
IsPath R (u ∷ v ∷ path) to = R u v × IsPath R (v ∷ path) to
