use Rattle.std.proofs.Common.{ℕ, ◌≡◌, ◌<◌, ◌≤◌, length, get_or, bit_or}
use Rattle.saga_order.proofs.step_sets.StepSet.add_all.Given as goal

abbrev pub invariant-loop-place : goal.invariant-loop-place
invariant-loop-place l = record {
  sized : length l.self-inside.words.items ≡ length l.initial.self-inside.words.items;
  front : (k : ℕ) → k < l.place → get_or l.self-inside.words.items k 0 ≡ bit_or (get_or l.initial.self-inside.words.items k 0) (get_or l.more k 0);
  rest : (k : ℕ) → l.place ≤ k → get_or l.self-inside.words.items k 0 ≡ get_or l.initial.self-inside.words.items k 0;
}
