use Rattle.std.proofs.Common.{◌≡◌, ◌≤◌}
use Rattle.saga_case.specs.Flow.{sum_below}
use Rattle.saga_rows.specs.Tables.{unfinished_at}
use Rattle.saga_rows.proofs.row.count_unfinished.Given as goal

abbrev pub invariant-loop-s : goal.invariant-loop-s
invariant-loop-s l = record {
  so_far : l.unfinished ≡ sum_below l.s (unfinished_at l.states l.goal);
  few : l.unfinished ≤ l.s;
}
