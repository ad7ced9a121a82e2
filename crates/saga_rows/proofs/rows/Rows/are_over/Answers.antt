use Rattle.saga_rows.proofs.RowsLemmas.{none_open, open_none}
use Rattle.saga_rows.proofs.rows.Rows.are_over.Goals as goal

pub returns : goal.returns
returns c = rw (← c.self.view_is) (none_open _ _ c.self.invariant.counted, open_none _ _ c.self.invariant.counted)
