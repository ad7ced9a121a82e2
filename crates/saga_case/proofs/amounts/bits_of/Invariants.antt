use Rattle.std.proofs.Common.{ℕ, ◌<◌, ◌≤◌, get_or}
use Rattle.saga_case.proofs.amounts.bits_of.Given as goal

abbrev pub invariant-loop-amount : goal.invariant-loop-amount
invariant-loop-amount l = (k : ℕ) → k < l.amount-index → get_or l.amounts k 0 ≤ l.bits
