-- The residual arc at hand leads on from the last node.
use Rattle.std.proofs.Common.{◌<◌, ◌+◌, false, drop, get_or, length, arith}
use Rattle.std.proofs.lemmas.List.{drop_more}
use Rattle.saga_flow.proofs.FlowLemmas.{walk_more, walk_within}
use Rattle.saga_flow.proofs.reaching.nodes_of.Goals as goal

pub bounds-arcs-residual : goal.bounds-arcs-residual
bounds-arcs-residual c =
    let more = drop_more c.args.path.now c.loop-residual.residual-index (record { arc = 0; forward = false }) c.loop-residual-test.true in
    walk_within c.args.arcs.now c.loop-residual.nodes.items _ (drop (c.loop-residual.residual-index + 1) c.args.path.now) (rw more at c.loop-residual.invariant)

pub offset_bounds-arcs-residual : goal.offset_bounds-arcs-residual
offset_bounds-arcs-residual c =
    let more = drop_more c.args.path.now c.loop-residual.residual-index (record { arc = 0; forward = false }) c.loop-residual-test.true in
    let within : (get_or c.args.path.now c.loop-residual.residual-index (record { arc = 0; forward = false })).arc < length c.args.arcs.now = walk_within c.args.arcs.now c.loop-residual.nodes.items _ (drop (c.loop-residual.residual-index + 1) c.args.path.now) (rw more at c.loop-residual.invariant) in
    omega (arith, within)

pub loop-residual-preserved : goal.loop-residual-preserved
loop-residual-preserved c =
    let more = drop_more c.args.path.now c.loop-residual.residual-index (record { arc = 0; forward = false }) c.loop-residual-test.true in
    rw c.in_ok-push-2.ensures.items (walk_more c.args.arcs.now c.loop-residual.nodes.items _ (drop (c.loop-residual.residual-index + 1) c.args.path.now) _ (rw more at c.loop-residual.invariant))
