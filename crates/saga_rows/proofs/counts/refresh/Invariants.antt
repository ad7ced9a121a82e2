use Rattle.std.proofs.Common.{take}
use Rattle.saga_rows.specs.Tables.{AreRefreshed, ready_at}
use Rattle.saga_rows.proofs.counts.refresh.Given as goal

abbrev pub invariant-loop-step : goal.invariant-loop-step
invariant-loop-step l = AreRefreshed (ready_at l.states l.goal l.unmet l.held) (take l.step-index l.steps) l.initial.ready l.ready
