use Rattle.saga_drive.proofs.ManyLemmas.{are_the_last}
use Rattle.saga_drive.proofs.many.next_many.Goals as goal

pub returns-in-Ok-false-clause-ok : goal.returns-in-Ok-false-clause-ok
returns-in-Ok-false-clause-ok c =
    are_the_last c.args.book.now c.start_many.new.book c.start_many.new.telling c.args.most c.settled-settled.result _ c.end-in-Ok-false.result
    (rw c.in-Ok-false.field-0-test at c.in-Ok-false.ensures.ok) c.settled-settled.ensures c.last_front.ensures.front c.end-in-Ok-false.ensures.text c.end-in-Ok-false.ensures.lines
