use Rattle.std.proofs.Common.{◌<◌, ◌-◌, ◌^◌}
use Rattle.saga_closure.specs.Largest.{IsOnTheWay}
use Rattle.saga_closure.specs.Rows.{AreRows}
use Rattle.saga_closure.specs.Nets.{terms_in}
use Rattle.saga_closure.proofs.flows.run_phases.Given as goal

abbrev pub invariant-loop-progress : goal.invariant-loop-progress
invariant-loop-progress l = record {
  progress : IsOnTheWay (terms_in l.net) l.progress;
  small : l.progress.value < 2 ^ 63;
  rows : AreRows (terms_in l.net) l.progress.on.items l.rows;
}

abbrev pub decreases-loop-progress : goal.decreases-loop-progress
decreases-loop-progress l = 2 ^ 63 - l.progress.value
