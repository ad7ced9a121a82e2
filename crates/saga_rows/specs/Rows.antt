-- The rows of several sagas: a mark for each row in which a task is allowed, and the number of sagas that are not over.
use Rattle.std.specs.Prelude.{ℕ, Bool, List, [], true, false, not, length, slice_index_or, ◌==◌, ◌≡◌, ◌<◌, ◌≤◌, ◌+◌}
use Rattle.std.specs.List.{count_by}
use Rattle.saga_history.specs.declared.turns.Turn.{Turn}
use Rattle.saga_history.specs.declared.turns.Turn.TheVariants.{Going, Draining, Planning, Stuck}
use Rattle.saga_rows.specs.declared.tasks.RowTask.{RowTask}
use Rattle.saga_rows.specs.Limits.{max_rows}
use Rattle.saga_rows.specs.Row.{Row, RowAllows, RowAllowsNone, IsFirstOfRow, mark_at, one_if}
use Rattle.saga_rows.specs.Tables.{unfinished_in}

abbrev pub no_row : Row
no_row = record { definition = record { name = []; steps = []; needs = [] }; states = []; goal = []; turn = Stuck; misses = []; undo_misses = []; aborted = false }

abbrev pub row_at : List Row → ℕ → Row
row_at rows i = slice_index_or rows i no_row

-- a saga is over: stuck, or going with all steps as the goal requires
abbrev pub is_over_by : Turn → ℕ → Bool
is_over_by Going unfinished = unfinished == 0
is_over_by Draining unfinished = false
is_over_by Planning unfinished = false
is_over_by Stuck unfinished = true

abbrev pub is_over : Row → Bool
is_over row = is_over_by row.turn (unfinished_in row.definition row.states row.goal)

abbrev pub is_open : Row → Bool
is_open row = not (is_over row)

-- a mark says whether a row allows a task
pub record IsMarkOf (row : Row) (mark : Bool) : Type 0 where
  pub some : mark ≡ true → (t : RowTask) × RowAllows row t
  pub none : mark ≡ false → RowAllowsNone row

-- the marks of all rows except one are correct, and there is no mark after the rows; the set of marks may be longer
-- than the rows by at most one
pub record AreMarked (rows : List Row) (marks : List Bool) (but : ℕ) : Type 0 where
  pub sized : length rows ≤ length marks
  pub tight : length marks ≤ max_rows + 1
  pub few : length rows ≤ max_rows
  pub each : (i : ℕ) → i < length rows → (i ≡ but → ⊥) → IsMarkOf (row_at rows i) (mark_at marks i)
  pub past : (i : ℕ) → length rows ≤ i → mark_at marks i ≡ false

-- the number of open rows, in which one row is counted as it was before
abbrev pub IsCountBut : List Row → ℕ → Bool → ℕ → Type 0
IsCountBut rows i was count = count + one_if (is_open (row_at rows i)) ≡ count_by is_open rows + one_if was

-- marks and count are correct
pub record AreRows (rows : List Row) (marks : List Bool) (open_rows : ℕ) : Type 0 where
  pub marked : AreMarked rows marks (length rows)
  pub counted : open_rows ≡ count_by is_open rows

-- the first task by saga, then by step
pub record IsNext (rows : List Row) (i : ℕ) (t : RowTask) : Type 0 where
  pub within : i < length rows
  pub first : IsFirstOfRow (row_at rows i) t
  pub before : (k : ℕ) → k < i → RowAllowsNone (row_at rows k)
