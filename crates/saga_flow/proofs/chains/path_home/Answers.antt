-- The residual arc at hand, turned round, leads on from the trail so far.
use Rattle.std.proofs.Common.{sym}
use Rattle.saga_flow.proofs.TreeLemmas.{home_more}
use Rattle.saga_flow.proofs.chains.path_home.Goals as goal

pub loop-residual-preserved : goal.loop-residual-preserved
loop-residual-preserved c =
    let more = home_more c.args.arcs.now c.args.marks.now 1 0 c.loop-residual.node c.tail-node.result c.in-Some.residual c.loop-residual.path.items c.requires.tree c.loop-residual.invariant.marked (sym c.in-Some.ensures) c.tail-node.ensures c.loop-residual.invariant.trail in
    record { marked = more.1; trail = rw (c.in_ok-push.ensures.items, c.turned.ensures) more.0 }
