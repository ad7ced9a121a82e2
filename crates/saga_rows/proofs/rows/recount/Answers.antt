use Rattle.std.proofs.Common.{arith}
use Rattle.std.proofs.lemmas.List.{get_or_read}
use Rattle.saga_rows.specs.Rows.{no_row}
use Rattle.saga_rows.proofs.RowsLemmas.{count_enough, count_room}
use Rattle.saga_rows.proofs.rows.recount.Goals as goal

pub moved-requires-clause-enough : goal.moved-requires-clause-enough
moved-requires-clause-enough c = count_enough c.args.rows.now c.args.i c.args.was c.args.open_rows c.requires.counted c.requires.within

pub moved-requires-clause-room : goal.moved-requires-clause-room
moved-requires-clause-room c = count_room c.args.rows.now c.args.i c.args.was c.args.open_rows c.requires.counted c.requires.few

pub returns : goal.returns
returns c =
    let read = get_or_read c.args.rows.now c.args.i c.index-rows-i.result c.requires.within c.index-rows-i.is no_row in
    let h = rw (c.is_over.ensures, read) at c.moved.ensures in
    omega (arith, h, c.requires.counted)
