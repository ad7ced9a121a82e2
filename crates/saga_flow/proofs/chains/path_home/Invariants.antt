use Rattle.std.proofs.Common.{◌≡◌, Some}
use Rattle.saga_flow.specs.Search.{IsHomeArc}
use Rattle.saga_flow.specs.Rounds.{IsTrail}
use Rattle.saga_flow.specs.Marks.{Mark, depth_at, mark_at}
use Rattle.saga_flow.proofs.chains.path_home.Given as goal

abbrev pub invariant-loop-residual : goal.invariant-loop-residual
invariant-loop-residual l = record {
  marked : (m : Mark) × (mark_at l.marks l.node ≡ Some m);
  trail : IsTrail (IsHomeArc l.arcs l.marks) 0 l.path.items l.node;
}

abbrev pub decreases-loop-residual : goal.decreases-loop-residual
decreases-loop-residual l = depth_at l.marks l.node
