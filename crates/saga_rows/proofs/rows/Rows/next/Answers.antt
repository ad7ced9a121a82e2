use Rattle.std.proofs.Common.{◌≡◌, arith}
use Rattle.std.proofs.lemmas.List.{get_or_read}
use Rattle.saga_rows.specs.Row.{IsFirstOfRow}
use Rattle.saga_rows.specs.Rows.{row_at, no_row}
use Rattle.saga_rows.proofs.RowsLemmas.{none_marked, next_of}
use Rattle.saga_rows.proofs.rows.Rows.next.Goals as goal

pub returns-in-None : goal.returns-in-None
returns-in-None c = rw (← c.self.view_is) (λ i lt. none_marked c.self.inside.rows.items c.self.inside.tasks i c.self.invariant.marked lt (c.in-None.ensures i (omega (arith, lt, c.self.invariant.marked.sized))))

pub returns-in-Some-first : goal.returns-in-Some-first
returns-in-Some-first c =
    let within = next_of c.self.inside.rows.items c.self.inside.tasks c.in-Some.i c.self.invariant.marked c.in-Some.ensures.1 in
    let read : c.index-row.result.now ≡ row_at c.self.inside.rows.items c.in-Some.i = get_or_read c.self.inside.rows.items c.in-Some.i c.index-row.result.now within.0 c.index-row.ensures no_row in
    let first : IsFirstOfRow (row_at c.self.inside.rows.items c.in-Some.i) c.in-Some-first.task = rw read at c.in-Some-first.ensures in
    rw (← c.self.view_is) (record {
      within = within.0;
      first = first;
      before = λ k lt. none_marked c.self.inside.rows.items c.self.inside.tasks k c.self.invariant.marked (omega (arith, lt, within.0)) (c.in-Some.ensures.2 k lt);
    })
