use Rattle.std.proofs.lemmas.List.{get_or_read}
use Rattle.saga_rows.specs.Rows.{no_row}
use Rattle.saga_rows.proofs.RowsLemmas.{marked}
use Rattle.saga_rows.proofs.rows.mark.Goals as goal

pub returns : goal.returns
returns c =
    let read = get_or_read c.args.rows.now c.args.i c.index-rows-i.result c.requires.within c.index-rows-i.is no_row in
    rw c.set.ensures (marked c.args.rows.now c.args.tasks.now c.args.i c.has_task-some.result c.requires.within c.requires.others (rw read at c.has_task-some.ensures))
