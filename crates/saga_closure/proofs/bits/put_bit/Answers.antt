use Rattle.saga_closure.proofs.BitLemmas.{put_on, put_off, cleared_le}
use Rattle.saga_closure.proofs.bits.put_bit.Goals as goal

pub returns-then-on-clause-put : goal.returns-then-on-clause-put
returns-then-on-clause-put c = rw c.if-on.true (put_on c.args.word c.args.b c.requires)

pub returns-else-on-clause-put : goal.returns-else-on-clause-put
returns-else-on-clause-put c = rw c.if-on.false (put_off c.args.word c.args.b c.requires)

pub returns-else-on-clause-less : goal.returns-else-on-clause-less
returns-else-on-clause-less c = λ e. cleared_le c.args.word c.args.b c.args.on e
