use Rattle.std.proofs.Common.{◌+◌, ◌*◌, ◌<◌, ◌≤◌, ◌≡◌, reverse, get_or, vec_len, sum, length}
use Rattle.saga_flow.specs.Levels.{Climbs}
use Rattle.saga_flow.specs.Rounds.{IsTrail}
use Rattle.saga_closure.specs.Layers.{node_level}
use Rattle.saga_closure.specs.Links.{IsThinned}
use Rattle.saga_closure.specs.Nets.{terms_in, arcs_in}
use Rattle.saga_closure.proofs.walking.walk_back.Given as goal

abbrev pub invariant-loop-v : goal.invariant-loop-v
invariant-loop-v l = record {
  inside : l.v < (terms_in l.residual.net.now).count;
  low : get_or l.level l.v 0 ≤ l.fn.depth;
  alive : vec_len l.alive ≡ (terms_in l.residual.net.now).count;
  thinned : IsThinned l.level l.alive.items;
  left : vec_len l.left ≡ (terms_in l.residual.net.now).count;
  trail : IsTrail (Climbs (arcs_in l.residual.net.now) l.residual.on.now (node_level l.fn.depth l.level)) (2 + l.v) (reverse l.path.items) 1;
}

abbrev pub decreases-loop-v : goal.decreases-loop-v
decreases-loop-v l = 2 * sum l.left.items + length l.path.items
