use Rattle.std.proofs.Common.{◌+◌, ◌<◌, ◌≤◌, reverse, get_or}
use Rattle.saga_flow.specs.Levels.{Climbs}
use Rattle.saga_flow.specs.Rounds.{IsTrail}
use Rattle.saga_closure.specs.Layers.{node_level}
use Rattle.saga_closure.specs.Nets.{terms_in, arcs_in}
use Rattle.saga_closure.proofs.paths.path_to.Given as goal

abbrev pub invariant-loop-goal : goal.invariant-loop-goal
invariant-loop-goal l = record {
  inside : l.v < (terms_in l.residual.net.now).count;
  low : get_or l.found.level.items l.v 0 ≤ l.fn.goal.depth;
  trail : IsTrail (Climbs (arcs_in l.residual.net.now) l.residual.on.now (node_level l.fn.goal.depth l.found.level.items)) (2 + l.v) (reverse l.path.items) 1;
}

abbrev pub decreases-loop-goal : goal.decreases-loop-goal
decreases-loop-goal l = get_or l.found.level.items l.v 0
