-- A row: the tables of a saga, the tasks that may start in it, and the row after each change.
use Rattle.std.specs.Prelude.{ℕ, Bool, List, replicate, true, false, length, slice_index, slice_index_or, slice_set, cond, if◌then◌else◌, ◌≡◌, ◌<◌, ◌≤◌, ◌+◌}
use Rattle.saga_def.specs.Contents.{Contents}
use Rattle.saga_def.specs.Order.{NeedsDirectly}
use Rattle.saga_case.specs.declared.states.StepState.{StepState}
use Rattle.saga_case.specs.declared.states.StepState.TheVariants.{Waiting}
use Rattle.saga_case.specs.States.{commits}
use Rattle.saga_case.specs.declared.answers.Answer.{Answer}
use Rattle.saga_case.specs.declared.answers.Answer.TheVariants as answer
use Rattle.saga_history.specs.declared.turns.Turn.{Turn}
use Rattle.saga_history.specs.declared.turns.Turn.TheVariants.{Going, Draining, Stuck}
use Rattle.saga_history.specs.declared.transitions.Transition.{Transition}
use Rattle.saga_history.specs.declared.transitions.Transition.TheVariants as transition
use Rattle.saga_history.specs.States.{is_standing, is_busy, is_off, state_after, same_transition}
use Rattle.saga_history.specs.Turns.{turn_after_transition, turn_after_abort}
use Rattle.saga_rows.specs.declared.tasks.RowTask.{RowTask}
use Rattle.saga_rows.specs.declared.tasks.RowTask.TheVariants.{Run, Undo, Plan}

pub record Row : Type 0 where
  pub definition : Contents
  pub states : List StepState
  pub goal : List Bool
  pub turn : Turn
  pub misses : List ℕ
  pub undo_misses : List ℕ
  pub aborted : Bool

-- one entry for each step in each list
pub record IsSized (row : Row) : Type 0 where
  pub states : length row.states ≡ length row.definition.steps
  pub goal : length row.goal ≡ length row.definition.steps
  pub misses : length row.misses ≡ length row.definition.steps
  pub undo_misses : length row.undo_misses ≡ length row.definition.steps

-- the state of a step, and whether it is in the goal
abbrev pub state_at : List StepState → ℕ → StepState
state_at states s = slice_index_or states s Waiting

abbrev pub mark_at : List Bool → ℕ → Bool
mark_at marks s = slice_index_or marks s false

-- the action of a step may start
pub record MayRun (row : Row) (s : ℕ) : Type 0 where
  pub is_step : s < length row.definition.steps
  pub going : row.turn ≡ Going
  pub wanted : mark_at row.goal s ≡ true
  pub waiting : state_at row.states s ≡ Waiting
  pub stand : (a : ℕ) → NeedsDirectly row.definition.needs s a → is_standing (state_at row.states a) ≡ true

-- its compensation may start
pub record MayUndo (row : Row) (s : ℕ) : Type 0 where
  pub is_step : s < length row.definition.steps
  pub going : row.turn ≡ Going
  pub unwanted : mark_at row.goal s ≡ false
  pub committed : commits (state_at row.states s) ≡ true
  pub off : (b : ℕ) → NeedsDirectly row.definition.needs b s → is_off (state_at row.states b) ≡ true

-- a plan may start
pub record MayPlan (row : Row) : Type 0 where
  pub draining : row.turn ≡ Draining
  pub drained : (s : ℕ) → s < length row.definition.steps → is_busy (state_at row.states s) ≡ false

abbrev pub RowAllows : Row → RowTask → Type 0
RowAllows row (Run s) = MayRun row s
RowAllows row (Undo s) = MayUndo row s
RowAllows row Plan = MayPlan row

abbrev pub RowAllowsNone : Row → Type 0
RowAllowsNone row = (t : RowTask) → RowAllows row t → ⊥

-- the position of a task in the order of the steps; that of a plan is 0
abbrev pub task_step : RowTask → ℕ
task_step (Run s) = s
task_step (Undo s) = s
task_step Plan = 0

-- the task is allowed, and no task of a lower step is
abbrev pub IsFirstOfRow : Row → RowTask → Type 0
IsFirstOfRow row t = RowAllows row t × ((u : RowTask) → RowAllows row u → task_step t ≤ task_step u)

-- a step is as the goal requires
abbrev pub is_finished : Bool → StepState → Bool
is_finished wanted state = if wanted then is_standing state else is_off state

-- the saga is ended: it is going, and each step is as the goal requires
pub record RowIsEnded (row : Row) : Type 0 where
  pub going : row.turn ≡ Going
  pub finished : (s : ℕ) → s < length row.definition.steps → is_finished (mark_at row.goal s) (state_at row.states s) ≡ true

-- a row without changes
abbrev pub new_row : Contents → Row
new_row c = record {
  definition = c;
  states = replicate (length c.steps) Waiting;
  goal = replicate (length c.steps) true;
  turn = Going;
  misses = replicate (length c.steps) 0;
  undo_misses = replicate (length c.steps) 0;
  aborted = false;
}

-- 1 if true, and otherwise 0
abbrev pub one_if : Bool → ℕ
one_if b = cond b 1 0

abbrev pub miss_in : Transition → ℕ
miss_in t = one_if (same_transition transition.Missed t)

abbrev pub undo_miss_in : Transition → ℕ
undo_miss_in t = one_if (same_transition transition.UndoMissed t)

-- the row after a transition of a step
abbrev pub row_after : Row → ℕ → Transition → Row
row_after row s t = record row {
  states = slice_set row.states s (state_after t);
  misses = slice_set row.misses s (slice_index row.misses s + miss_in t);
  undo_misses = slice_set row.undo_misses s (slice_index row.undo_misses s + undo_miss_in t);
  turn = turn_after_transition t row.turn;
}

-- the number of misses does not overflow
pub record HasRoom (row : Row) (s : ℕ) (t : Transition) : Type 0 where
  pub few : slice_index row.misses s + miss_in t ≤ 255
  pub few_undo : slice_index row.undo_misses s + undo_miss_in t ≤ 255

-- the row after the adoption of an answer
abbrev pub row_adopting : Row → Answer → Row
row_adopting row (answer.Plan plan) = record row { goal = plan.kept; turn = Going }
row_adopting row (answer.Blocked chain) = record row { turn = Stuck }

-- a plan has a truth value for each step
abbrev pub FitsIn : Row → Answer → Type 0
FitsIn row (answer.Plan plan) = length plan.kept ≡ length row.definition.steps
FitsIn row (answer.Blocked chain) = Unit {0}

-- the row after an abort of the saga
abbrev pub row_aborting : Row → Row
row_aborting row = record row { turn = turn_after_abort row.turn; aborted = true }

-- the row after a change of the turn
abbrev pub row_turning : Row → Turn → Row
row_turning row turn = record row { turn = turn }
