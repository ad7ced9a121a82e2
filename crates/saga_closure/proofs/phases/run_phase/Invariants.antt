use Rattle.std.proofs.Common.{◌≡◌, ◌<◌, ◌^◌, vec_len}
use Rattle.saga_flow.specs.Levels.{IsLevelled}
use Rattle.saga_closure.specs.Layers.{node_level}
use Rattle.saga_closure.specs.Largest.{IsOnTheWay}
use Rattle.saga_closure.specs.Links.{IsThinned}
use Rattle.saga_closure.specs.Rows.{AreRows}
use Rattle.saga_closure.specs.Nets.{terms_in, arcs_in}
use Rattle.saga_closure.proofs.phases.run_phase.Given as goal

abbrev pub invariant-loop-j : goal.invariant-loop-j
invariant-loop-j l = record {
  alive : vec_len l.alive ≡ (terms_in l.net).count;
  thinned : IsThinned l.found.level.items l.alive.items;
  left : vec_len l.left ≡ (terms_in l.net).count;
  levelled : IsLevelled (arcs_in l.net) l.progress.on.items (node_level l.fn.goal.depth l.found.level.items);
  progress : IsOnTheWay (terms_in l.net) l.progress;
  small : l.progress.value < 2 ^ 63;
  more : l.fn.progress.value < l.progress.value;
  rows : AreRows (terms_in l.net) l.progress.on.items l.rows;
}
