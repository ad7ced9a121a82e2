use Rattle.std.proofs.Common.{ℕ, ◌≡◌, ◌<◌, length, get_or}
use Rattle.saga_def.specs.Neighbours.{needs_of}
use Rattle.saga_rows.proofs.row.count_needs.Given as goal

abbrev pub invariant-loop-s : goal.invariant-loop-s
invariant-loop-s l = record {
  sized : length l.counts.items ≡ l.s;
  each : (s : ℕ) → s < l.s → get_or l.counts.items s 0 ≡ length (needs_of l.definition s);
}
