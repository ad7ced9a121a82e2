use Rattle.std.proofs.Common.{ℕ, ◌≡◌, ◌<◌, length}
use Rattle.std.specs.Prelude.{slice_index_or, false}
use Rattle.saga_rows.specs.Tables.{ready_at}
use Rattle.saga_rows.proofs.counts.refresh_all.Given as goal

abbrev pub invariant-loop-s : goal.invariant-loop-s
invariant-loop-s l = record {
  sized : length l.ready ≡ length l.initial.ready;
  marks : (s : ℕ) → s < l.s → slice_index_or l.ready s false ≡ ready_at l.states l.goal l.unmet l.held s;
}
