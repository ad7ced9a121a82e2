use Rattle.std.proofs.Common.{arith}
use Rattle.saga_drive.proofs.ManyLemmas.{has_started_fewer, has_started_last, has_started_more, has_started_none}
use Rattle.saga_drive.proofs.many.start_many.Goals as goal

pub loop-count-init : goal.loop-count-init
loop-count-init c = has_started_none c.args.book.now c.args.telling.now c.requires

pub loop-count-preserved : goal.loop-count-preserved
loop-count-preserved c =
    has_started_more c.args.book.now c.loop-count.book c.start_next.new.book c.loop-count.telling c.start_next.new.telling c.loop-count.count c.loop-count.invariant
    (rw c.in-Ok-true.field-0-test at c.in-Ok-true.ensures.ok)

pub returns-in-Ok-false-clause-ok : goal.returns-in-Ok-false-clause-ok
returns-in-Ok-false-clause-ok c =
    has_started_last c.args.book.now c.loop-count.book c.start_next.new.book c.loop-count.telling c.start_next.new.telling c.loop-count.count c.args.most
    c.loop-count.invariant (omega arith) (rw c.in-Ok-false.field-0-test at c.in-Ok-false.ensures.ok)

pub returns-in-Err-clause-err : goal.returns-in-Err-clause-err
returns-in-Err-clause-err c =
    has_started_fewer c.args.book.now c.loop-count.book c.start_next.new.book c.loop-count.telling c.start_next.new.telling c.loop-count.count c.args.most
    c.loop-count.invariant (omega arith) c.in-Err.ensures.err
