use Rattle.std.proofs.Common.{◌≡◌}
use Rattle.std.specs.BTreeMap.{btree_map_len, get}
use Rattle.std.specs.Ordering.{nat_cmp}
use Rattle.saga_audit.specs.Groups.{Finds, is_in}
use Rattle.saga_audit.specs.Sagas.{AreWaiting, is_done, new_rows}
use Rattle.saga_audit.proofs.audits.find.Given as goal

abbrev pub invariant-loop-saga : goal.invariant-loop-saga
invariant-loop-saga l =
    (l.rows.items ≡ new_rows l.shelf) × AreWaiting (is_in l.workers l.group) l.events l.links.items (get nat_cmp l.heads)
    × Finds l.shelf (is_done (is_in l.workers l.group) (get nat_cmp l.heads)) l.events l.found

abbrev pub decreases-loop-saga : goal.decreases-loop-saga
decreases-loop-saga l = btree_map_len l.heads
