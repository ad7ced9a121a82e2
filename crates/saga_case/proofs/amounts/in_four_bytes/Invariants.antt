use Rattle.std.proofs.Common.{ℕ, ◌≡◌, ◌<◌, length, get_or}
use Rattle.saga_case.proofs.amounts.in_four_bytes.Given as goal

abbrev pub invariant-loop-place : goal.invariant-loop-place
invariant-loop-place l = record {
  sized : length l.list.items ≡ length l.amounts;
  front : (k : ℕ) → k < l.place → get_or l.list.items k 0 ≡ get_or l.amounts k 0;
}
