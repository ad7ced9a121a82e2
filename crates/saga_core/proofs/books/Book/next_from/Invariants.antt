use Rattle.std.proofs.Common.{ℕ, ◌<◌, ◌≤◌}
use Rattle.saga_rows.specs.Row.{RowAllowsNone}
use Rattle.saga_rows.specs.Rows.{row_at}
use Rattle.saga_core.specs.Book.{number}
use Rattle.saga_core.proofs.books.Book.next_from.Given as goal

-- none of the rows so far whose saga has that number or a later one allows a task
abbrev pub invariant-loop-index : goal.invariant-loop-index
invariant-loop-index l =
    (k : ℕ) → k < l.index → l.saga ≤ number l.self-inside.first l.self-inside.stride k → RowAllowsNone (row_at l.self-inside.rows k)
