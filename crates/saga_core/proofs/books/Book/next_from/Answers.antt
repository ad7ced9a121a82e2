use Rattle.std.proofs.Common.{◌<◌, ◌≤◌, arith, length}
use Rattle.saga_rows.specs.Row.{IsFirstOfRow}
use Rattle.saga_rows.specs.Rows.{row_at}
use Rattle.saga_core.specs.Book.{number}
use Rattle.saga_core.proofs.NextLemmas.{from_first, from_none, from_small}
use Rattle.saga_core.proofs.books.Book.next_from.Goals as goal

pub returns-in-Some-clause-first : goal.returns-in-Some-clause-first
returns-in-Some-clause-first c =
    let within : c.loop-index.index < length c.self.inside.rows = omega arith in
    let far : c.args.saga ≤ number c.self.inside.first c.self.inside.stride c.loop-index.index = rw c.number_of-number.ensures at c.if-number-saga.true in
    let first : IsFirstOfRow (row_at c.self.inside.rows c.loop-index.index) c.in-Some.task = rw c.row.ensures at c.in-Some.ensures in
    rw (← c.self.view_is, c.task_of.ensures, c.number_of-number.ensures) (from_first _ _ _ _ _ c.self.invariant c.args.saga c.loop-index.index c.in-Some.task within far first c.loop-index.invariant)

pub returns-in-Some-clause-small : goal.returns-in-Some-clause-small
returns-in-Some-clause-small c =
    let within : c.loop-index.index < length c.self.inside.rows = omega arith in
    rw (c.task_of.ensures, c.number_of-number.ensures) (from_small _ _ _ _ _ c.self.invariant c.loop-index.index c.in-Some.task within)

pub returns-clause-first : goal.returns-clause-first
returns-clause-first c =
    let all : length c.self.inside.rows ≤ c.loop-index.index = omega arith in
    rw (← c.self.view_is) (from_none _ _ _ _ _ c.self.invariant c.args.saga (λ k lt. c.loop-index.invariant k (omega (arith, lt, all))))
