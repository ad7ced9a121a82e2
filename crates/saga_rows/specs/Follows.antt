-- When a row agrees with the changes of its saga, and which changes the row then allows.
use Rattle.std.specs.Prelude.{◌≡◌, ℕ, ◌<◌, ◌≤◌, ◌+◌, false, List, Some, length, slice_index}
use Rattle.saga_def.specs.Contents.{Contents}
use Rattle.saga_def.specs.Sound.{IsSound}
use Rattle.saga_case.specs.declared.states.StepState.{StepState}
use Rattle.saga_case.specs.declared.states.StepState.TheVariants.{Running, Undoing}
use Rattle.saga_case.specs.Situation.{Situation, situation}
use Rattle.saga_history.specs.declared.transitions.Transition.{Transition}
use Rattle.saga_history.specs.declared.transitions.Transition.TheVariants as transition
use Rattle.saga_history.specs.declared.turns.Turn.{Turn}
use Rattle.saga_history.specs.declared.turns.Turn.TheVariants.{Going, Draining, Planning, Stuck}
use Rattle.saga_history.specs.declared.tasks.Outcome.{Outcome}
use Rattle.saga_history.specs.declared.tasks.Kind.{Kind}
use Rattle.saga_history.specs.declared.tasks.Kind.TheVariants as kind
use Rattle.saga_history.specs.declared.tasks.Phase.{Phase}
use Rattle.saga_history.specs.declared.tasks.Phase.TheVariants as phase
use Rattle.saga_history.specs.Changes.{Change}
use Rattle.saga_history.specs.States.{is_busy, state}
use Rattle.saga_history.specs.Turns.{turn, goal, aborted}
use Rattle.saga_history.specs.Tasks.{end_of, tries_of}
use Rattle.saga_history.specs.Rules.{definition, tries, undo_tries, misses_of, undo_misses_of}
use Rattle.saga_rows.specs.Row.{Row, state_at, mark_at, IsSized, MayRun, MayUndo, RowIsEnded}

-- the row has the state that the changes of its saga give
pub record Follows (shelf : List Contents) (row : Row) (l : List Change) : Type 0 where
  pub defined : definition shelf l ≡ Some row.definition
  pub sound : IsSound row.definition
  pub sized : IsSized row
  pub states_are : (s : ℕ) → s < length row.definition.steps → state_at row.states s ≡ state l s
  pub goal_is : (s : ℕ) → s < length row.definition.steps → mark_at row.goal s ≡ goal l s
  pub misses_are : (s : ℕ) → s < length row.definition.steps → slice_index row.misses s ≡ misses_of l s
  pub undo_misses_are : (s : ℕ) → s < length row.definition.steps → slice_index row.undo_misses s ≡ undo_misses_of l s
  pub turn_is : row.turn ≡ turn l
  pub aborted_is : row.aborted ≡ aborted l

-- a step of the row has this state
pub record IsIn (row : Row) (s : ℕ) (x : StepState) : Type 0 where
  pub is_step : s < length row.definition.steps
  pub here : state_at row.states s ≡ x

abbrev pub misses_at : Row → ℕ → ℕ
misses_at row s = slice_index row.misses s

abbrev pub undo_misses_at : Row → ℕ → ℕ
undo_misses_at row s = slice_index row.undo_misses s

-- no step is busy
abbrev pub IsDrained : Row → Type 0
IsDrained row = (s : ℕ) → s < length row.definition.steps → is_busy (state_at row.states s) ≡ false

-- the transitions that the row allows
abbrev pub RowMay : Row → ℕ → Transition → Type 0
RowMay row s transition.StartRun = MayRun row s
RowMay row s transition.Commit = IsIn row s Running
RowMay row s transition.Void = IsIn row s Running
RowMay row s transition.Missed = IsIn row s Running × (misses_at row s + 1 < tries row.definition s)
RowMay row s transition.Fail = IsIn row s Running × (tries row.definition s ≤ misses_at row s + 1)
RowMay row s transition.StartUndo = MayUndo row s
RowMay row s transition.Undone = IsIn row s Undoing
RowMay row s transition.UndoMissed = IsIn row s Undoing × (undo_misses_at row s + 1 < undo_tries row.definition s)
RowMay row s transition.UndoFail = IsIn row s Undoing × (undo_tries row.definition s ≤ undo_misses_at row s + 1)

-- the number of misses of a step's action, or of its compensation
abbrev pub missed_at : Row → Kind → ℕ → ℕ
missed_at row kind.Run s = misses_at row s
missed_at row kind.Undo s = undo_misses_at row s

-- the transition by which it ends with an outcome
abbrev pub row_end : Row → ℕ → Kind → Outcome → Transition
row_end row s kind outcome = end_of kind outcome (missed_at row kind s) (tries_of kind row.definition s)

-- the saga is neither ended nor stuck
abbrev pub IsNotOver : Turn → Row → Type 0
IsNotOver Going row = RowIsEnded row → ⊥
IsNotOver Draining row = Unit {0}
IsNotOver Planning row = Unit {0}
IsNotOver Stuck row = ⊥

-- the saga may be aborted
pub record RowMayAbort (row : Row) : Type 0 where
  pub once : row.aborted ≡ false
  pub not_over : IsNotOver row.turn row

-- the present case
abbrev pub row_case : Row → Situation
row_case row = situation row.definition row.states row.aborted

-- the phase of the saga
abbrev pub RowHasPhase : Row → Phase → Type 0
RowHasPhase row phase.Going = (row.turn ≡ Going) × (RowIsEnded row → ⊥)
RowHasPhase row phase.Draining = row.turn ≡ Draining
RowHasPhase row phase.Planning = row.turn ≡ Planning
RowHasPhase row phase.Ended = RowIsEnded row
RowHasPhase row phase.Stuck = row.turn ≡ Stuck
