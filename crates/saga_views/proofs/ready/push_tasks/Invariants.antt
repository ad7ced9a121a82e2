use Rattle.std.proofs.Common.{ℕ, ◌≤◌, ◌+◌, ◌*◌, Some}
use Rattle.saga_views.specs.Ready.{AddsOf, IsReady, IsReadyUpTo, ListsAll}
use Rattle.saga_views.proofs.ready.push_tasks.Given as goal

abbrev pub invariant-loop-step : goal.invariant-loop-step
invariant-loop-step l = record {
  all : (from : ℕ) → from ≤ l.saga → ListsAll (IsReady l.book from (Some l.saga)) l.fn.tasks.items
      → ListsAll (IsReadyUpTo l.book from l.saga (2 * l.step + 1)) l.tasks.items;
  only : AddsOf l.saga l.fn.tasks.items l.tasks.items;
}
