use Rattle.std.proofs.Common.{arith}
use Rattle.saga_desk.specs.Agreement.{histories_of, receipts_of}
use Rattle.saga_desk.specs.Rests.{NoneIsNext}
use Rattle.saga_desk.proofs.StepLemmas.{between_more}
use Rattle.saga_desk.proofs.agreement.next_between.Goals as goal

pub loop-seat-preserved : goal.loop-seat-preserved
loop-seat-preserved c = between_more (λ k. NoneIsNext (histories_of c.args.books.now) c.args.taken.now (receipts_of c.args.seats.now) c.args.told.now k) c.args.from c.loop-seat.seat c.loop-seat.invariant c.in_default.ensures.none

pub returns-clause-none : goal.returns-clause-none
returns-clause-none c = λ k low high. let e = c.loop-seat-test.false in c.loop-seat.invariant k low (omega arith)
