-- The path grows by a residual arc nearer, or loses its last.
use Rattle.saga_flow.specs.Levels.{Nears}
use Rattle.saga_flow.specs.Marks.{far_in}
use Rattle.saga_flow.proofs.NetLemmas.{AreEnds-from_test}
use Rattle.saga_flow.proofs.LevelLemmas.{trail_push}
use Rattle.saga_flow.proofs.PathLemmas.{nears_less, last_within}
use Rattle.saga_flow.proofs.phases.next_path.Goals as goal

pub loop-node-preserved-in-Some : goal.loop-node-preserved-in-Some
loop-node-preserved-in-Some c =
    let more = trail_push (Nears c.args.graph.now.arcs.now c.args.on.now (far_in c.args.marks.now)) c.loop-node.path.items c.in-Some.nearer.residual 0 c.loop-node.node c.in-Some.nearer.to c.loop-node.invariant.trail c.in-Some.ensures.nearer in
    record { inside = c.in-Some.ensures.within; left = c.loop-node.invariant.left; trail = rw c.in_ok-push-in-Some.ensures.items more }

pub tail-node-requires : goal.tail-node-requires
tail-node-requires c =
    last_within c.args.graph.now.arcs.now c.args.on.now (far_in c.args.marks.now) c.pop.new.self.items c.loop-node.node c.in-Some-pop.residual (rw c.in-Some-pop.ensures.items at c.loop-node.invariant.trail)

pub loop-node-preserved : goal.loop-node-preserved
loop-node-preserved c =
    let ends = AreEnds-from_test (c.args.graph.now.nodes) c.args.graph.now.arcs.now c.args.graph.now.net.ends in
    let less = nears_less (c.args.graph.now.nodes) c.args.graph.now.arcs.now c.args.on.now (far_in c.args.marks.now) c.pop.new.self.items c.loop-node.node c.tail-node.result c.in-Some-pop.residual ends (rw c.in-Some-pop.ensures.items at c.loop-node.invariant.trail) c.tail-node.ensures in
    record { inside = less.1; left = c.loop-node.invariant.left; trail = less.0 }
