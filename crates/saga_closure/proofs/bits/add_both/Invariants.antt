use Rattle.std.proofs.Common.{ℕ, ◌≡◌, ◌<◌, ◌≤◌, length, get_or, bit_or}
use Rattle.saga_closure.proofs.bits.add_both.Given as goal

abbrev pub invariant-loop-place : goal.invariant-loop-place
invariant-loop-place l = record {
  sized : length l.words ≡ length l.initial.words;
  front : (k : ℕ) → k < l.place → get_or l.words k 0 ≡ bit_or (get_or l.initial.words k 0) (bit_or (get_or l.one k 0) (get_or l.two k 0));
  rest : (k : ℕ) → l.place ≤ k → get_or l.words k 0 ≡ get_or l.initial.words k 0;
}
