-- One residual arc more: the lesser of what the path so far and the residual arc carry.
use Rattle.std.proofs.lemmas.List.{get_or_default}
use Rattle.std.proofs.Common.{false}
use Rattle.saga_flow.proofs.AmountLemmas.{most_more}
use Rattle.saga_flow.proofs.pushes.most_along.Goals as goal

pub loop-residual-preserved : goal.loop-residual-preserved
loop-residual-preserved c =
    let path = c.args.path.now in
    let i = c.loop-residual.residual-index in
    rw c.min-least.ensures (most_more c.args.arcs.now c.args.on.now path i c.loop-residual.least c.room.result c.loop-residual.invariant c.room.ensures.some
    (λ d. rw (get_or_default path i d (record { arc = 0; forward = false }) c.loop-residual-test.true) c.room.ensures.carries)
    (λ below all. c.room.ensures.most below (all (record { arc = 0; forward = false }))))
