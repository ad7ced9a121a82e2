-- For each step, a row of bits: the steps to which residual arcs over needs lead from it.
use Rattle.std.specs.Prelude.{ℕ, List, length, slice_index, slice_index_or, slice_get, Some, nat_lt, true, ◌⊎◌, ◌≡◌, ◌<◌, ◌≤◌, ◌+◌, ◌*◌}
use Rattle.saga_def.specs.Neighbours.{a_need}
use Rattle.saga_case.specs.Terms.{Terms}
use Rattle.saga_flow.specs.declared.residual_arcs.ResidualArc.{ResidualArc}
use Rattle.saga_closure.specs.declared.rows.Rows.{Rows}
use Rattle.saga_closure.specs.Bits.{holds, place_in, words_for}
use Rattle.saga_closure.specs.Layers.{no_step}

-- rows that are correct except for the needs that are `Stale`
pub record AreRowsBut (t : Terms) (on : List ℕ) (width : ℕ) (words : List ℕ) (Stale : ℕ → Type 0) : Type 0 where
  pub wide : t.count ≤ 64 * width
  pub narrow : width ≤ 16
  pub exact : width ≡ words_for t.count
  pub sized : length words ≡ t.count * width
  pub along : (k b a : ℕ) → slice_get t.needs k ≡ Some (a_need b a) → holds words (place_in width b a) ≡ true
  pub back : (k b a : ℕ) → slice_get t.needs k ≡ Some (a_need b a) → (holds words (place_in width a b) ≡ nat_lt 0 (slice_index on (t.count + (t.count + k)))) ⊎ Stale k
  pub none : (v u : ℕ) → v < t.count → u < 64 * width → holds words (place_in width v u) ≡ true → (k : ℕ) × ((slice_get t.needs k ≡ Some (a_need v u)) ⊎ (slice_get t.needs k ≡ Some (a_need u v)))

-- the row of a step has exactly the steps that it needs, and the steps that need it by a need with a positive amount
abbrev pub AreRows : Terms → List ℕ → Rows → Type 0
AreRows t on rows = AreRowsBut t on rows.width rows.words.items (λ _. ⊥)

-- a residual arc of the path, from this index on, is over this arc
abbrev pub IsOver : List ResidualArc → ℕ → ℕ → Type 0
IsOver path from arc = (j : ℕ) × (from ≤ j) × (j < length path) × ((slice_index_or path j no_step).arc ≡ arc)

-- rows that are correct except for the needs of the path from this index on
abbrev pub AreRowsOff : Terms → List ℕ → List ResidualArc → ℕ → Rows → Type 0
AreRowsOff t on path from rows = AreRowsBut t on rows.width rows.words.items (λ k. IsOver path from (t.count + (t.count + k)))

-- one row
pub record IsRow (rows : Rows) (v : ℕ) (row : List ℕ) : Type 0 where
  pub sized : length row ≡ rows.width
  pub each : (u : ℕ) → u < 64 * rows.width → holds row u ≡ holds rows.words.items (place_in rows.width v u)

-- the union of the rows of the steps in the list between two indices
pub record IsUnion (rows : Rows) (order : List ℕ) (first end : ℕ) (set : List ℕ) : Type 0 where
  pub sized : length set ≡ rows.width
  pub only : (u : ℕ) → u < 64 * rows.width → holds set u ≡ true → (j : ℕ) × (first ≤ j) × (j < end) × (holds rows.words.items (place_in rows.width (slice_index order j) u) ≡ true)
  pub all : (j u : ℕ) → first ≤ j → j < end → u < 64 * rows.width → holds rows.words.items (place_in rows.width (slice_index order j) u) ≡ true → holds set u ≡ true

-- the first `many` steps of the list are added to the row that starts at a bit
pub record AreAdded (old : List ℕ) (at : ℕ) (steps : List ℕ) (many : ℕ) (new : List ℕ) : Type 0 where
  pub sized : length new ≡ length old
  pub added : (e : ℕ) → e < many → holds new (at + slice_index steps e) ≡ true
  pub kept : (i : ℕ) → holds old i ≡ true → holds new i ≡ true
  pub only : (i : ℕ) → holds new i ≡ true → (holds old i ≡ true) ⊎ ((e : ℕ) × (e < many) × (i ≡ at + slice_index steps e))
