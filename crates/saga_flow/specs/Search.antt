-- The state of a breadth-first search, during the search and at its end.
use Rattle.std.specs.Prelude.{ℕ, ◌≡◌, ◌≢◌, ◌+◌, ◌<◌, ◌≤◌, List, [], ◌∷◌, ◌++◌, Option, Some, None, length, slice_get, slice_set, is_some, count_by}
use Rattle.saga_flow.specs.declared.nets.Arc.{Arc}
use Rattle.saga_flow.specs.declared.residual_arcs.ResidualArc.{ResidualArc}
use Rattle.saga_flow.specs.declared.searching.Found.{Found}
use Rattle.saga_flow.specs.declared.searching.Place.{Place}
use Rattle.saga_flow.specs.Residual.{Leads}
use Rattle.saga_flow.specs.Marks.{Mark, mark_at, depth_at}
use Rattle.saga_flow.specs.Listed.{turned}

-- a node has a mark with at most this depth
abbrev pub IsSeen : List (Option Mark) → ℕ → ℕ → Type 0
IsSeen marks node most = (m : Mark) × (mark_at marks node ≡ Some m) × (m.depth ≤ most)

-- a mark has the residual arc by which its node was found, from a node with a depth one less
abbrev pub IsFound : List Arc → (ResidualArc → Type 0) → List (Option Mark) → ℕ → Mark → Type 0
IsFound arcs passes marks node m =
    (s : ResidualArc) × (u : ℕ) × (p : Mark) × (m.by ≡ Some s) × Leads arcs s u node × passes s × (mark_at marks u ≡ Some p) × (m.depth ≡ p.depth + 1)

-- the goal of a search has a mark
abbrev pub HasGoal : Option ℕ → List (Option Mark) → Type 0
HasGoal goal marks = (v : ℕ) × (m : Mark) × (goal ≡ Some v) × (mark_at marks v ≡ Some m)

-- if the goal of a search has a mark, its depth is at least two more than this
abbrev pub IsBeforeGoal : Option ℕ → List (Option Mark) → ℕ → Type 0
IsBeforeGoal goal marks depth = (v : ℕ) (m : Mark) → goal ≡ Some v → mark_at marks v ≡ Some m → depth + 1 < m.depth

-- a search from `start` is complete: the nodes that passing residual arcs reach are marked, each with the minimum
-- number of residual arcs; or the nodes up to a goal are
pub record IsSearchTree (nodes : ℕ) (arcs : List Arc) (passes : ResidualArc → Type 0) (start : ℕ) (goal : Option ℕ) (marks : List (Option Mark)) : Type 0 where
  pub sized : length marks ≡ nodes
  pub root : mark_at marks start ≡ Some (record { depth = 0; by = None })
  pub shallow : (v : ℕ) (m : Mark) → mark_at marks v ≡ Some m → m.depth < nodes
  pub near : (s : ResidualArc) (u v : ℕ) (m : Mark) → Leads arcs s u v → passes s → mark_at marks u ≡ Some m → IsBeforeGoal goal marks m.depth → IsSeen marks v (m.depth + 1)
  pub back : (v : ℕ) (m : Mark) → mark_at marks v ≡ Some m → v ≢ start → IsFound arcs passes marks v m

-- a search in progress: the nodes in `order` are the marked ones, by depth, and the first `next` of them are processed
pub record IsSearch (nodes : ℕ) (arcs : List Arc) (passes : ResidualArc → Type 0) (start : ℕ) (marks : List (Option Mark)) (order : List ℕ) (next : ℕ) : Type 0 where
  pub sized : length marks ≡ nodes
  pub root : mark_at marks start ≡ Some (record { depth = 0; by = None })
  pub counted : length order ≡ count_by is_some marks
  pub listed : (v : ℕ) (m : Mark) → mark_at marks v ≡ Some m → (j : ℕ) × (slice_get order j ≡ Some v)
  pub marked : (j v : ℕ) → slice_get order j ≡ Some v → (m : Mark) × (mark_at marks v ≡ Some m)
  pub shallow : (v : ℕ) (m : Mark) → mark_at marks v ≡ Some m → m.depth < length order
  pub back : (v : ℕ) (m : Mark) → mark_at marks v ≡ Some m → v ≢ start → IsFound arcs passes marks v m
  pub done : (j u : ℕ) (s : ResidualArc) (v : ℕ) → j < next → slice_get order j ≡ Some u → Leads arcs s u v → passes s → IsSeen marks v (depth_at marks u + 1)
  pub sorted : (j k u v : ℕ) → j ≤ k → slice_get order j ≡ Some u → slice_get order k ≡ Some v → depth_at marks u ≤ depth_at marks v
  pub top : (u v : ℕ) (m : Mark) → slice_get order next ≡ Some u → mark_at marks v ≡ Some m → m.depth ≤ depth_at marks u + 1

-- a search in progress, by its marks and its order
abbrev pub IsSearching : ℕ → List Arc → (ResidualArc → Type 0) → ℕ → Found → ℕ → Type 0
IsSearching nodes arcs passes start found next = IsSearch nodes arcs passes start found.marks found.order.items next

-- the same, and the next node of the order is the current one
pub record IsVisiting (nodes : ℕ) (arcs : List Arc) (passes : ResidualArc → Type 0) (place : Place) (found : Found) : Type 0 where
  pub search : IsSearch nodes arcs passes place.start found.marks found.order.items place.next
  pub now : slice_get found.order.items place.next ≡ Some place.node
  pub deep : place.depth ≡ depth_at found.marks place.node + 1

-- one more node has a mark
pub record IsMarked (old new : Found) (node : ℕ) (m : Mark) : Type 0 where
  pub marks : new.marks ≡ slice_set old.marks node (Some m)
  pub order : new.order.items ≡ old.order.items ++ node ∷ []

-- an arc of a search's tree: it leads to a node that was found by it, with a depth one more
abbrev pub IsTreeArc : List Arc → List (Option Mark) → ResidualArc → ℕ → ℕ → Type 0
IsTreeArc arcs marks s from to =
    Leads arcs s from to × ((m : Mark) × (p : Mark) × (mark_at marks to ≡ Some m) × (m.by ≡ Some s) × (mark_at marks from ≡ Some p) × (m.depth ≡ p.depth + 1))

-- marks that form a tree with the start as its root
pub record IsTree (arcs : List Arc) (start : ℕ) (marks : List (Option Mark)) : Type 0 where
  pub root : mark_at marks start ≡ Some (record { depth = 0; by = None })
  pub back : (v : ℕ) (m : Mark) → mark_at marks v ≡ Some m → v ≢ start → (s : ResidualArc) × (u : ℕ) × IsTreeArc arcs marks s u v

-- a residual arc towards the start of the search: the reverse of the arc by which its tail was found
abbrev pub IsHomeArc : List Arc → List (Option Mark) → ResidualArc → ℕ → ℕ → Type 0
IsHomeArc arcs marks s from to = Leads arcs s from to × IsTreeArc arcs marks (turned s) to from
