use Rattle.std.proofs.Common.{◌≤◌, ◌-◌}
use Rattle.saga_closure.specs.Rows.{IsUnion}
use Rattle.saga_closure.proofs.rows.steps_after.Given as goal

abbrev pub invariant-loop-next : goal.invariant-loop-next
invariant-loop-next l = record {
  begun : l.first ≤ l.next;
  within : l.next ≤ l.end;
  union : IsUnion l.rows l.order l.first l.next l.set;
}

abbrev pub decreases-loop-next : goal.decreases-loop-next
decreases-loop-next l = l.end - l.next
