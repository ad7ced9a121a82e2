-- The marks of a breadth-first search, and the distances of nodes by these marks.
use Rattle.std.specs.Prelude.{ℕ, ◌≡◌, ◌≢◌, ◌+◌, ◌==◌, if◌then◌else◌, List, [], ◌∷◌, Option, Some, None, length, slice_index_or}
use Rattle.saga_flow.specs.declared.residual_arcs.ResidualArc.{ResidualArc}

-- how a search reached a node: the number of residual arcs, and the last one (none for the start node)
pub record Mark : Type 0 where
  pub depth : ℕ
  pub by : Option ResidualArc

-- the value for the depth of a node without a mark
abbrev pub no_depth : ℕ
no_depth = 4294967295

-- the mark for a depth and a residual arc
abbrev pub mark_of : ℕ → ResidualArc → Option Mark
mark_of depth by =
    if depth == no_depth then None else Some (record { depth = depth; by = if depth == 0 then None else Some by })

-- the marks for lists of depths and residual arcs
abbrev pub marks_of : List ℕ → List ResidualArc → List (Option Mark)
marks_of (depth ∷ depths) (by ∷ bys) = mark_of depth by ∷ marks_of depths bys
marks_of [] bys = []
marks_of (depth ∷ depths) [] = []

-- the mark of a node
abbrev pub mark_at : List (Option Mark) → ℕ → Option Mark
mark_at marks node = slice_index_or marks node None

-- the depth of a mark
abbrev pub depth_of : Option Mark → ℕ
depth_of None = 0
depth_of (Some m) = m.depth

-- the depth of a node
abbrev pub depth_at : List (Option Mark) → ℕ → ℕ
depth_at marks node = depth_of (mark_at marks node)

-- the residual arc by which a mark was made
abbrev pub by_of : Option Mark → Option ResidualArc
by_of None = None
by_of (Some m) = m.by

-- the distance of a node from the start of a search: the depth of its mark, or the number of nodes if it has none
abbrev pub far_of : ℕ → Option Mark → ℕ
far_of nodes None = nodes
far_of nodes (Some m) = m.depth

-- the distance of a node by its mark
abbrev pub far_in : List (Option Mark) → ℕ → ℕ
far_in marks node = far_of (length marks) (mark_at marks node)

-- a node has a mark with a depth one less than this
abbrev pub IsJustAbove : List (Option Mark) → ℕ → ℕ → Type 0
IsJustAbove marks node depth = (m : Mark) × (mark_at marks node ≡ Some m) × (m.depth + 1 ≡ depth)

-- the stored depth for a mark, or for none
pub record IsDepth (mark : Option Mark) (depth : ℕ) : Type 0 where
  pub none : depth ≡ no_depth → mark ≡ None
  pub some : depth ≢ no_depth → (m : Mark) × (mark ≡ Some m) × (m.depth ≡ depth)
