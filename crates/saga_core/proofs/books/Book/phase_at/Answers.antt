use Rattle.std.proofs.Common.{◌<◌, arith, refl}
use Rattle.saga_rows.specs.Rows.{row_at}
use Rattle.saga_rows.specs.Follows.{RowHasPhase}
use Rattle.saga_core.specs.Book.{sagas_in}
use Rattle.saga_core.proofs.PhaseLemmas.{stands_at}
use Rattle.saga_core.proofs.books.Book.phase_at.Goals as goal

pub row-requires : goal.row-requires
row-requires c =
    let within : c.args.index < sagas_in c.self.inside.journal.history = rw (← c.self.view_is) at c.requires in
    omega (arith, within, c.self.invariant.counted)

pub returns : goal.returns
returns c =
    let within : c.args.index < sagas_in c.self.inside.journal.history = rw (← c.self.view_is) at c.requires in
    let here : RowHasPhase (row_at c.self.inside.rows c.args.index) c.phase.result = rw c.row.ensures at c.phase.ensures in
    rw (← c.self.view_is) (stands_at _ _ _ _ _ c.self.invariant c.args.index (omega (arith, within, c.self.invariant.counted)) _ refl c.phase.result here)
