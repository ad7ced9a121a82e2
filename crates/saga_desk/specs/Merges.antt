-- Merges of lists.
use Rattle.std.specs.Prelude.{◌≡◌, ℕ, List, [], ◌∷◌, slice_index_or, slice_set}

-- m has all elements of the lists and keeps the order within each: its first element is the first of some list, and so
-- on until no element is left
abbrev pub IsMerge : {X : Type 0} → List (List X) → List X → Type 0
IsMerge ls [] = (i : ℕ) → slice_index_or ls i [] ≡ []
IsMerge ls (x ∷ m) = (i : ℕ) × (r : _) × (slice_index_or ls i [] ≡ x ∷ r) × IsMerge (slice_set ls i r) m

-- some list is a merge of the first lists and also a merge of the second lists
abbrev pub HaveCommonMerge : {X : Type 0} → List (List X) → List (List X) → Type 0
HaveCommonMerge {X} hs ss = (m : List X) × IsMerge hs m × IsMerge ss m
