-- A search from the source, layer by layer.
use Rattle.std.specs.Prelude.{ℕ, Bool, List, [], ◌∷◌, ◌++◌, length, slice_index, slice_set, if◌then◌else◌, nat_lt, min, true, ◌⊎◌, ◌==◌, ◌≡◌, ◌<◌, ◌≤◌, ◌+◌, ◌-◌}
use Rattle.std.specs.List.{count_by}
use Rattle.saga_case.specs.Terms.{Terms}
use Rattle.saga_flow.specs.declared.residual_arcs.ResidualArc.{ResidualArc}
use Rattle.saga_flow.specs.Residual.{IsOpen, IsResidual}
use Rattle.saga_closure.specs.Bits.{holds, IsPut, words_for}
use Rattle.saga_closure.specs.CaseNet.{network_of}
use Rattle.saga_closure.specs.declared.searching.Found.{Found}
use Rattle.saga_closure.specs.declared.searching.Goal.{Goal}

-- the value for no level
abbrev pub none : ℕ
none = 65535

-- whether a value is a level
abbrev pub is_level : ℕ → Bool
is_level level = nat_lt level none

-- a residual arc leads from the source to a step; from a step to the sink; from a step to a step
abbrev pub GoesIn : Terms → List ℕ → ℕ → Type 0
GoesIn t on v = IsResidual (network_of t).arcs on 0 (2 + v)

abbrev pub GoesOut : Terms → List ℕ → ℕ → Type 0
GoesOut t on v = IsResidual (network_of t).arcs on (2 + v) 1

abbrev pub Goes : Terms → List ℕ → ℕ → ℕ → Type 0
Goes t on v w = IsResidual (network_of t).arcs on (2 + v) (2 + w)

abbrev pub no_step : ResidualArc
no_step = record { arc = 0; forward = 0 == 1 }

-- why a step has its level: a residual arc leads to it from the source, or from a step one level lower
abbrev pub CameBy : Terms → List ℕ → List ℕ → ℕ → Type 0
CameBy t on level v =
    ((slice_index level v ≡ 0) × GoesIn t on v)
    ⊎ ((u : ℕ) × (u < t.count) × Goes t on u v × (slice_index level v ≡ slice_index level u + 1))

-- a search in progress: the layers before `depth` are complete; the layer of `depth` is in `order` from `first` to
-- `end`, and its steps before `next` are processed; the steps found from these follow. No step with a level below
-- `dried` has residual capacity to the sink
pub record IsSearch (t : Terms) (on level labelled order : List ℕ) (first end next depth dried : ℕ) : Type 0 where
  pub sized : length level ≡ t.count
  pub wide : length labelled ≡ words_for t.count
  pub few_steps : t.count ≤ 1024
  pub bounds : (first ≤ next) × (next ≤ end) × (end ≤ length order)
  pub dries : dried ≤ depth + 1
  pub inside : (j : ℕ) → j < length order → slice_index order j < t.count
  pub counted : length order ≡ count_by is_level level
  pub deep : depth ≤ first
  pub levels : (v : ℕ) → v < t.count → (slice_index level v ≤ depth + 1) ⊎ (slice_index level v ≡ none)
  pub here : (j : ℕ) → first ≤ j → j < end → slice_index level (slice_index order j) ≡ depth
  pub there : (j : ℕ) → end ≤ j → j < length order → slice_index level (slice_index order j) ≡ depth + 1
  pub listed : (v : ℕ) → v < t.count → slice_index level v ≡ depth → (j : ℕ) × (first ≤ j) × (j < end) × (slice_index order j ≡ v)
  pub listed_next : (v : ℕ) → v < t.count → slice_index level v ≡ depth + 1 → (j : ℕ) × (end ≤ j) × (j < length order) × (slice_index order j ≡ v)
  pub source : (v : ℕ) → v < t.count → GoesIn t on v → slice_index level v ≡ 0
  pub done : (v w : ℕ) → v < t.count → w < t.count → slice_index level v < depth → Goes t on v w → slice_index level w ≤ slice_index level v + 1
  pub done_here : (j w : ℕ) → first ≤ j → j < next → w < t.count → Goes t on (slice_index order j) w → slice_index level w ≤ depth + 1
  pub dry : (v : ℕ) → v < t.count → slice_index level v < dried → GoesOut t on v → ⊥
  pub back : (v : ℕ) → v < t.count → slice_index level v < none → CameBy t on level v
  pub marked : (v : ℕ) → v < t.count → holds labelled v ≡ true → slice_index level v < none

-- one more step has a level
pub record IsLabelled (old new : Found) (v depth : ℕ) : Type 0 where
  pub level : new.level.items ≡ slice_set old.level.items v depth
  pub labelled : IsPut old.labelled.items v true new.labelled.items
  pub order : new.order.items ≡ old.order.items ++ v ∷ []

-- the levels of nodes after the search ended at a layer with a goal
abbrev pub node_level : ℕ → List ℕ → ℕ → ℕ
node_level depth level node =
    if node == 0 then 0 else (if node == 1 then depth + 2 else min (slice_index level (node - 2)) (depth + 1) + 1)

-- of the steps below `so_far`, exactly those with a positive residual capacity have level 0
pub record IsStart (room : ℕ → ℕ) (count : ℕ) (level labelled order : List ℕ) (so_far : ℕ) : Type 0 where
  pub sized : length level ≡ count
  pub wide : length labelled ≡ words_for count
  pub inside : (j : ℕ) → j < length order → (slice_index order j < so_far) × (slice_index level (slice_index order j) ≡ 0)
  pub counted : length order ≡ count_by is_level level
  pub either : (v : ℕ) → v < so_far → ((slice_index level v ≡ 0) × (0 < room v) × ((j : ℕ) × (j < length order) × (slice_index order j ≡ v))) ⊎ ((slice_index level v ≡ none) × (room v ≡ 0))
  pub later : (v : ℕ) → so_far ≤ v → v < count → slice_index level v ≡ none
  pub marked : (v : ℕ) → v < count → holds labelled v ≡ true → slice_index level v < none

-- the steps of a set that had no level get one, one after another
pub data AreLabelled (Set : ℕ → Type 0) (depth : ℕ) (old : Found) : Found → Type 0 where
  no_more : AreLabelled Set depth old old
  one_more : {mid : Found} (v : ℕ) (last : Found) → AreLabelled Set depth old mid → Set v → slice_index mid.level.items v ≡ none → IsLabelled mid last v depth → AreLabelled Set depth old last

-- a search that ended at a layer with a goal
pub record IsAtGoal (t : Terms) (on : List ℕ) (found : Found) (goal : Goal) : Type 0 where
  pub search : IsSearch t on found.level.items found.labelled.items found.order.items goal.first (length found.order.items) goal.first goal.depth goal.depth
  pub inside : goal.step < t.count
  pub level : slice_index found.level.items goal.step ≡ goal.depth
  pub goes : IsOpen (network_of t).arcs on (record { arc = t.count + goal.step; forward = 0 == 0 }) (2 + goal.step) 1

-- a search without a goal: the steps with a level are those that the source reaches, and none of them has residual
-- capacity to the sink
pub record IsReach (t : Terms) (on : List ℕ) (found : Found) : Type 0 where
  pub depth : ℕ
  pub search : IsSearch t on found.level.items found.labelled.items found.order.items (length found.order.items) (length found.order.items) (length found.order.items) depth depth
