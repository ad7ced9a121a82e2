use Rattle.std.proofs.Common.{ℕ, ◌<◌, ◌≤◌, get_or, length, []}
use Rattle.saga_desk.specs.Agreement.{receipts_of}
use Rattle.saga_desk.proofs.agreement.are_told.Given as goal

abbrev pub invariant-loop-i : goal.invariant-loop-i
invariant-loop-i l = (k : ℕ) → k < l.i → length (get_or (receipts_of l.seats) k []) ≤ get_or l.told k 0
