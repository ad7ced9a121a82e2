use Rattle.std.proofs.Common.{ℕ, ◌<◌, ◌≤◌}
use Rattle.saga_desk.specs.Agreement.{histories_of, receipts_of}
use Rattle.saga_desk.specs.Rests.{NoneIsNext}
use Rattle.saga_desk.proofs.agreement.next_between.Given as goal

abbrev pub invariant-loop-seat : goal.invariant-loop-seat
invariant-loop-seat l = (k : ℕ) → l.from ≤ k → k < l.seat → NoneIsNext (histories_of l.books) l.taken (receipts_of l.seats) l.told k
