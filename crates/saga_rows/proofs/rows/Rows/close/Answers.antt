use Rattle.std.proofs.Common.{rules, ◌≡◌, ◌<◌, ◌-◌, ◌+◌, ◌∙◌, length, ap, arith}
use Rattle.std.specs.List.{count_by}
use Rattle.saga_rows.specs.Row.{one_if}
use Rattle.saga_rows.specs.Rows.{is_open}
use Rattle.saga_rows.proofs.RowsLemmas.{closed_one, count_push}
use Rattle.saga_rows.proofs.rows.Rows.close.Goals as goal

pub invariant_of-self : goal.invariant_of-self
invariant_of-self c =
    let some : 0 < length c.self.inside.rows.items = rw (← c.self.view_is) at c.requires in
    let n : c.len-i.result ≡ length c.self.inside.rows.items = search rules in
    let one : (c.len-i.result - 1) + 1 ≡ length c.self.inside.rows.items = omega (arith, some, n) in
    let fewer : count_by is_open c.self.inside.rows.items ≡ count_by is_open c.take_last-last.new.self.items + one_if (is_open c.take_last-last.result) = ap (count_by is_open) c.take_last-last.ensures.items ∙ count_push c.take_last-last.new.self.items c.take_last-last.result in
    let moved = rw c.is_over.ensures at c.moved-self-inside.ensures in
    record {
      marked = rw c.set.ensures (closed_one c.take_last-last.new.self.items c.self.inside.rows.items c.take_last-last.result c.self.inside.tasks (c.len-i.result - 1) c.take_last-last.ensures.items one c.self.invariant.marked);
      counted = omega (arith, moved, fewer, c.self.invariant.counted);
    }
