use Rattle.std.proofs.Common.{◌≡◌, length}
use Rattle.saga_work.specs.Added.{Adds}
use Rattle.saga_work.specs.Answered.{IsWork}
use Rattle.saga_work.proofs.workers.work.Given as goal

abbrev pub invariant-loop : goal.invariant-loop
invariant-loop g l =
    (goal.iterator-loop g).can_next l.iterator' ×
    (goal.iterator-loop g).is_finite l.iterator' ×
    Adds IsWork l.fn.seat l.seat ×
    (l.seat.claims ≡ l.fn.seat.claims) ×
    (l.rope.rung_for ≡ length l.seat.receipts)
