use Rattle.saga_rows.proofs.BitSetLemmas.{put_on, put_off}
use Rattle.saga_rows.proofs.bit_sets.put_bit.Goals as goal

pub returns-then-on : goal.returns-then-on
returns-then-on c = rw c.if-on.true (put_on c.args.word c.args.b c.requires)

pub returns-else-on : goal.returns-else-on
returns-else-on c = rw c.if-on.false (put_off c.args.word c.args.b c.requires)
