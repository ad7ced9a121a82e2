-- Flows: an amount on each arc, within the capacities and conserved, and the value of a flow.
use Rattle.std.specs.Prelude.{ℕ, ◌≡◌, ◌≢◌, ◌+◌, ◌≤◌, ◌==◌, if◌then◌else◌, List, [], ◌∷◌, Some, length, slice_get, slice_index}
use Rattle.saga_flow.specs.declared.nets.Arc.{Arc}
use Rattle.saga_flow.specs.declared.nets.Cap.{Cap}
use Rattle.saga_flow.specs.declared.nets.Cap.TheVariants.{Of, Unbounded}

-- the sum, over all arcs, of a function of the arc and its amount
abbrev pub total : (Arc → ℕ → ℕ) → List Arc → List ℕ → ℕ
total share [] on = 0
total share (a ∷ arcs) [] = 0
total share (a ∷ arcs) (x ∷ on) = share a x + total share arcs on

-- the outflow of a node
abbrev pub out_of : List Arc → List ℕ → ℕ → ℕ
out_of arcs on node = total (λ (a : Arc) x. if a.from == node then x else 0) arcs on

-- the inflow of a node
abbrev pub into : List Arc → List ℕ → ℕ → ℕ
into arcs on node = total (λ (a : Arc) x. if a.to == node then x else 0) arcs on

-- an amount is within a capacity
abbrev pub IsWithin : ℕ → Cap → Type 0
IsWithin x (Of c) = x ≤ c
IsWithin x Unbounded = Unit {0}

-- a flow: one amount for each arc, within the arc's capacity; the inflow equals the outflow at each node except source
-- and sink
pub record IsFlow (arcs : List Arc) (on : List ℕ) : Type 0 where
  pub sized : length on ≡ length arcs
  pub within : (k : ℕ) (a : Arc) → slice_get arcs k ≡ Some a → IsWithin (slice_index on k) a.cap
  pub conserved : (node : ℕ) → node ≢ 0 → node ≢ 1 → into arcs on node ≡ out_of arcs on node

-- the value: the outflow of the source minus its inflow
abbrev pub HasValue : List Arc → List ℕ → ℕ → Type 0
HasValue arcs on value = value + into arcs on 0 ≡ out_of arcs on 0

-- no flow has a larger value
abbrev pub IsGreatest : List Arc → ℕ → Type 0
IsGreatest arcs value = (on : List ℕ) (other : ℕ) → IsFlow arcs on → HasValue arcs on other → other ≤ value
