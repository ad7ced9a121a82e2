use Rattle.std.proofs.Common.{◌<◌, ◌^◌}
use Rattle.saga_closure.specs.Apart.{IsApart}
use Rattle.saga_closure.specs.Largest.{IsOnTheWay}
use Rattle.saga_closure.specs.Nets.{terms_in, arcs_in}
use Rattle.saga_closure.proofs.pairs.send_from.Given as goal

abbrev pub invariant-loop-e : goal.invariant-loop-e
invariant-loop-e l = record {
  far : IsApart (arcs_in l.net) l.progress.on.items 3;
  progress : IsOnTheWay (terms_in l.net) l.progress;
  small : l.progress.value < 2 ^ 63;
}
