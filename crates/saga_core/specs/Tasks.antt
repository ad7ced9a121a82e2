-- Which tasks may start in a book, and the state of its sagas.
use Rattle.std.specs.Prelude.{◌≡◌, ℕ, ◌<◌, ◌≤◌, ◌⊎◌, Bool, true, false, List, Some, length}
use Rattle.saga_def.specs.Contents.{Contents}
use Rattle.saga_case.specs.declared.states.StepState.{StepState}
use Rattle.saga_history.specs.declared.events.Event.{Event}
use Rattle.saga_history.specs.declared.tasks.Phase.{Phase}
use Rattle.saga_history.specs.declared.tasks.Task.{Task}
use Rattle.saga_history.specs.declared.tasks.Task.TheVariants.{Run, Undo, Plan}
use Rattle.saga_history.specs.declared.transitions.Transition.{Transition}
use Rattle.saga_history.specs.declared.transitions.Transition.TheVariants as transition
use Rattle.saga_history.specs.declared.turns.Turn.TheVariants.{Stuck}
use Rattle.saga_history.specs.Changes.{past}
use Rattle.saga_history.specs.Progress.{IsEndedOrWaits}
use Rattle.saga_history.specs.Rules.{definition, HasPhase, IsEnded, misses_of, undo_misses_of}
use Rattle.saga_history.specs.States.{state}
use Rattle.saga_history.specs.Tasks.{TaskIsAllowed}
use Rattle.saga_history.specs.Turns.{aborted, in_goal, turn}
use Rattle.saga_rows.specs.declared.tasks.RowTask.{RowTask}
use Rattle.saga_rows.specs.declared.tasks.RowTask.TheVariants as row
use Rattle.saga_core.specs.Refusals.{IsUnknown, OfSaga}
use Rattle.saga_core.specs.Book.{Book, changes_in, definition_in}

abbrev pub saga_of_task : Task → ℕ
saga_of_task (Run i s) = i
saga_of_task (Undo i s) = i
saga_of_task (Plan i) = i

-- a plan is ordered like step 0
abbrev pub step_of_task : Task → ℕ
step_of_task (Run i s) = s
step_of_task (Undo i s) = s
step_of_task (Plan i) = 0

-- the order of tasks: by saga, then by step
abbrev pub IsNotAfter : Task → Task → Type 0
IsNotAfter t u = (saga_of_task t < saga_of_task u) ⊎ ((saga_of_task t ≡ saga_of_task u) × (step_of_task t ≤ step_of_task u))

-- the task may start
abbrev pub MayStart : Book → Task → Type 0
MayStart b t = TaskIsAllowed b.shelf (past b.history) t

-- the task is allowed, and no allowed task comes before it
pub record IsFirstTask (b : Book) (t : Task) : Type 0 where
  pub allowed : MayStart b t
  pub first : (u : Task) → MayStart b u → IsNotAfter t u

abbrev pub NoTaskIsAllowed : Book → Type 0
NoTaskIsAllowed b = (t : Task) → MayStart b t → ⊥

-- the same for the sagas from a number on
pub record IsFirstTaskFrom (b : Book) (from : ℕ) (t : Task) : Type 0 where
  pub allowed : MayStart b t
  pub within : from ≤ saga_of_task t
  pub first : (u : Task) → MayStart b u → from ≤ saga_of_task u → IsNotAfter t u

abbrev pub NoTaskIsAllowedFrom : Book → ℕ → Type 0
NoTaskIsAllowedFrom b from = (t : Task) → MayStart b t → from ≤ saga_of_task t → ⊥

-- the task of a row as a task of its saga, and back
abbrev pub task_of : ℕ → RowTask → Task
task_of i (row.Run s) = Run i s
task_of i (row.Undo s) = Undo i s
task_of i row.Plan = Plan i

abbrev pub row_task : Task → RowTask
row_task (Run i s) = row.Run s
row_task (Undo i s) = row.Undo s
row_task (Plan i) = row.Plan

-- the transition starts an action or a compensation
abbrev pub starts : Transition → Bool
starts transition.StartRun = true
starts transition.Commit = false
starts transition.Void = false
starts transition.Missed = false
starts transition.Fail = false
starts transition.StartUndo = true
starts transition.Undone = false
starts transition.UndoMissed = false
starts transition.UndoFail = false

-- each saga is ended, stuck or being planned, or one of its steps is busy
abbrev pub AllRest : Book → Type 0
AllRest b =
    (i : ℕ) (d : Contents) → definition_in b i ≡ Some d → IsEndedOrWaits d (changes_in b i)

-- the definition of the saga
abbrev pub IsDefinedBy : Book → ℕ → Contents → Type 0
IsDefinedBy b i d = definition_in b i ≡ Some d

-- there is no such saga, or it has no such step
abbrev pub HasNoStep : Book → ℕ → ℕ → Type 0
HasNoStep b i s = IsUnknown b i ⊎ OfSaga b i (λ d l. length d.steps ≤ s)

-- the state of a step, and whether it is in the goal
abbrev pub HasState : Book → ℕ → ℕ → StepState → Type 0
HasState b i s x = OfSaga b i (λ d l. (s < length d.steps) × (x ≡ state l s))

-- the number of misses of its action; the number of misses of its compensation
abbrev pub HasMisses : Book → ℕ → ℕ → ℕ → Type 0
HasMisses b i s count = OfSaga b i (λ d l. (s < length d.steps) × (count ≡ misses_of l s))

abbrev pub HasUndoMisses : Book → ℕ → ℕ → ℕ → Type 0
HasUndoMisses b i s count = OfSaga b i (λ d l. (s < length d.steps) × (count ≡ undo_misses_of l s))

abbrev pub HasGoal : Book → ℕ → ℕ → Bool → Type 0
HasGoal b i s wanted = OfSaga b i (λ d l. (s < length d.steps) × (wanted ≡ in_goal l s))

-- the phase of the saga
abbrev pub StandsAt : Book → ℕ → Phase → Type 0
StandsAt b i phase = OfSaga b i (λ d l. HasPhase d l phase)

-- whether it was aborted
abbrev pub WasAborted : Book → ℕ → Bool → Type 0
WasAborted b i a = OfSaga b i (λ d l. a ≡ aborted l)

-- each saga is ended or stuck
abbrev pub AllAreOver : Book → Type 0
AllAreOver b =
    (i : ℕ) (d : Contents) → definition_in b i ≡ Some d → IsEnded d (changes_in b i) ⊎ (turn (changes_in b i) ≡ Stuck)
