use Rattle.saga_rows.proofs.RowsLemmas.{no_rows}
use Rattle.saga_rows.proofs.rows.Rows.new.Goals as goal

pub invariant_of-result : goal.invariant_of-result
invariant_of-result c = rw c.new.ensures.items (no_rows c.empty.result c.empty.ensures)
