-- The tables of a row: counts and marks that each change updates.
use Rattle.std.specs.Prelude.{ℕ, Bool, List, false, not, length, slice_index, ◌==◌, ◌&&◌, ◌≡◌, ◌<◌, ◌+◌, ◌*◌, ◌⊎◌}
use Rattle.std.specs.List.{count_by}
use Rattle.saga_def.specs.Contents.{Contents}
use Rattle.saga_def.specs.Neighbours.{needs_of, needed_by}
use Rattle.saga_def.specs.Sound.{IsSound}
use Rattle.saga_case.specs.Flow.{sum_below}
use Rattle.saga_case.specs.declared.states.StepState.{StepState}
use Rattle.saga_case.specs.declared.states.StepState.TheVariants.{Waiting, Committed, Void}
use Rattle.saga_history.specs.States.{is_standing, is_busy, is_off}
use Rattle.saga_rows.specs.Row.{state_at, mark_at, is_finished, one_if}

-- the number of needs of a step on steps that are not in effect
abbrev pub unmet_of : Contents → List StepState → ℕ → ℕ
unmet_of c states s = count_by (λ a. not (is_standing (state_at states a))) (needs_of c s)

-- the number of steps that need it directly and prevent its compensation
abbrev pub held_of : Contents → List StepState → ℕ → ℕ
held_of c states s = count_by (λ b. not (is_off (state_at states b))) (needed_by c s)

-- whether a step may start while its saga is going
abbrev pub is_ready : StepState → Bool → ℕ → ℕ → Bool
is_ready Waiting wanted unmet held = wanted && unmet == 0
is_ready Committed wanted unmet held = not wanted && held == 0
is_ready Void wanted unmet held = not wanted && held == 0
is_ready _ wanted unmet held = false

abbrev pub ready_at : List StepState → List Bool → List ℕ → List ℕ → ℕ → Bool
ready_at states goal unmet held s =
    is_ready (state_at states s) (mark_at goal s) (slice_index unmet s) (slice_index held s)

-- the number of steps that are not as the goal requires
abbrev pub unfinished_at : List StepState → List Bool → ℕ → ℕ
unfinished_at states goal s = one_if (not (is_finished (mark_at goal s) (state_at states s)))

abbrev pub unfinished_in : Contents → List StepState → List Bool → ℕ
unfinished_in c states goal = sum_below (length c.steps) (unfinished_at states goal)

-- the counts of a row: for each step the number of its needs that are not met and the number of dependants that prevent
-- its compensation; and the numbers of steps that are busy and that are not as the goal requires
pub record IsCounted (c : Contents) (states : List StepState) (goal : List Bool) (unmet held : List ℕ) (busy unfinished : ℕ) : Type 0 where
  pub unmet_sized : length unmet ≡ length c.steps
  pub held_sized : length held ≡ length c.steps
  pub unmet_is : (s : ℕ) → s < length c.steps → slice_index unmet s ≡ unmet_of c states s
  pub held_is : (s : ℕ) → s < length c.steps → slice_index held s ≡ held_of c states s
  pub busy_is : busy ≡ count_by is_busy states
  pub unfinished_is : unfinished ≡ unfinished_in c states goal

-- the tables of a row agree with its states and goal
pub record IsRow (c : Contents) (states : List StepState) (goal : List Bool) (unmet held : List ℕ) (busy unfinished : ℕ) (ready : List Bool) : Type 0 where
  pub sound : IsSound c
  pub states_sized : length states ≡ length c.steps
  pub goal_sized : length goal ≡ length c.steps
  pub ready_sized : length ready ≡ length c.steps
  pub counted : IsCounted c states goal unmet held busy unfinished
  pub ready_is : (s : ℕ) → s < length c.steps → mark_at ready s ≡ ready_at states goal unmet held s

-- the tables, and the numbers of misses of each step and each compensation
pub record IsKept (c : Contents) (states : List StepState) (goal : List Bool) (misses undo_misses unmet held : List ℕ) (busy unfinished : ℕ) (ready : List Bool) : Type 0 where
  pub tables : IsRow c states goal unmet held busy unfinished ready
  pub misses_sized : length misses ≡ length c.steps
  pub undo_misses_sized : length undo_misses ≡ length c.steps

-- the number of occurrences of a number in a list
abbrev pub occurs : ℕ → List ℕ → ℕ
occurs s xs = count_by (λ x. x == s) xs

-- the counts after a neighbor of the steps in a list changed: it was counted or not before, and is counted or not now
abbrev pub AreShifted : List ℕ → Bool → Bool → List ℕ → List ℕ → Type 0
AreShifted steps was now old new =
    (s : ℕ) → s < length old → slice_index new s + one_if was * occurs s steps ≡ slice_index old s + one_if now * occurs s steps

-- the mark of each of these steps is recomputed, and the others are unchanged
pub record AreRefreshed (mark : ℕ → Bool) (steps : List ℕ) (old new : List Bool) : Type 0 where
  pub sized : length new ≡ length old
  pub either : (s : ℕ) → s < length old → (mark_at new s ≡ mark s) ⊎ ((occurs s steps ≡ 0) × (mark_at new s ≡ mark_at old s))
