use Rattle.std.proofs.Common.{take}
use Rattle.std.specs.Prelude.{true, false}
use Rattle.saga_rows.specs.Tables.{AreShifted}
use Rattle.saga_rows.proofs.counts.lower.Given as goal

abbrev pub invariant-loop-s : goal.invariant-loop-s
invariant-loop-s l = AreShifted (take l.s-index l.steps) true false l.initial.counts l.counts
