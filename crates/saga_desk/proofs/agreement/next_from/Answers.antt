use Rattle.std.proofs.Common.{length}
use Rattle.saga_desk.specs.Agreement.{histories_of, receipts_of}
use Rattle.saga_desk.specs.Rests.{NoneIsNext}
use Rattle.saga_desk.proofs.StepLemmas.{in_turn, past_seat, if_none}
use Rattle.saga_desk.proofs.agreement.next_from.Goals as goal

pub returns-clause-none : goal.returns-clause-none
returns-clause-none c =
    if_none c.next_between-2.result c.next_between-2.ensures.none (λ low.
    in_turn (λ k. NoneIsNext (histories_of c.args.books.now) c.args.taken.now (receipts_of c.args.seats.now) c.args.told.now k) c.args.first (length c.args.seats.now)
    c.requires.within c.in_default.ensures.none low
    (λ k past. past_seat c.args.books.now c.args.taken.now c.args.seats.now c.args.told.now k c.requires.seats past))
