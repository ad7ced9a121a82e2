use Rattle.std.proofs.Common.{ℕ, ◌<◌, ◌≤◌, get_or, length, []}
use Rattle.saga_desk.specs.Agreement.{marks_of}
use Rattle.saga_desk.proofs.agreement.are_taken.Given as goal

abbrev pub invariant-loop-i : goal.invariant-loop-i
invariant-loop-i l = (k : ℕ) → k < l.i → length (get_or (marks_of l.books) k []) ≤ get_or l.taken k 0
