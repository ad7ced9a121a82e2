use Rattle.std.proofs.Common.{◌≤◌, ◌-◌, Some}
use Rattle.saga_views.specs.Ready.{IsNotCut, IsReady, ListsAll}
use Rattle.saga_views.proofs.ready.ready_tasks.Given as goal

abbrev pub invariant-loop-task : goal.invariant-loop-task
invariant-loop-task l = record {
  far : l.from ≤ l.saga;
  each : ListsAll (IsReady l.book l.from (Some l.saga)) l.tasks.items;
  not_cut : IsNotCut l.tasks.items;
}

abbrev pub decreases-loop-task : goal.decreases-loop-task
decreases-loop-task l = 4294967296 - l.saga
