-- The tail of a residual arc is one of the nodes.
use Rattle.std.proofs.Common.{◌<◌, arith}
use Rattle.saga_flow.proofs.NetLemmas.{AreEnds-from_test}
use Rattle.saga_flow.proofs.ResidualArcLemmas.{leads_nodes}
use Rattle.saga_flow.proofs.phases.put_back.Goals as goal
use Rattle.saga_flow.proofs.phases.put_back.Goals.{After-tail-node}

inside : (c : After-tail-node) → c.tail-node.result < c.args.graph.now.nodes
inside c =
    let lead = c.tail-node.ensures in
    (leads_nodes c.args.graph.now.nodes c.args.graph.now.arcs.now _ c.tail-node.result lead.0 (AreEnds-from_test _ _ c.args.graph.now.net.ends) lead.1).0

pub offset_bounds-left-node : goal.offset_bounds-left-node
offset_bounds-left-node c = omega (arith, inside c, c.args.graph.now.small, c.requires.left)

pub bounds-left-node : goal.bounds-left-node
bounds-left-node c = omega (arith, inside c, c.requires.left)
