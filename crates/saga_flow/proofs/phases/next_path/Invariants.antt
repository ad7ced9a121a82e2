use Rattle.std.proofs.Common.{◌≡◌, ◌<◌, ◌+◌, ◌*◌, length, vec_len, sum}
use Rattle.saga_flow.specs.Levels.{Nears}
use Rattle.saga_flow.specs.Rounds.{IsTrail}
use Rattle.saga_flow.specs.Marks.{far_in}
use Rattle.saga_flow.proofs.phases.next_path.Given as goal

abbrev pub invariant-loop-node : goal.invariant-loop-node
invariant-loop-node l = record {
  inside : l.node < l.graph.nodes;
  left : vec_len l.left ≡ l.graph.nodes;
  trail : IsTrail (Nears l.graph.arcs.now l.on (far_in l.marks)) 0 l.path.items l.node;
}

abbrev pub decreases-loop-node : goal.decreases-loop-node
decreases-loop-node l = 2 * sum l.left.items + length l.path.items
