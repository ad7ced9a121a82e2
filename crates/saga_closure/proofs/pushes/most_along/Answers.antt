-- One step more: the lesser of what the path so far and the step carry.
use Rattle.std.proofs.lemmas.List.{get_or_default}
use Rattle.std.proofs.Common.{false, arith}
use Rattle.saga_flow.proofs.AmountLemmas.{most_more}
use Rattle.saga_closure.specs.Nets.{arcs_in}
use Rattle.saga_closure.proofs.pushes.most_along.Goals as goal

pub loop-over-preserved : goal.loop-over-preserved
loop-over-preserved c =
    let path = c.args.path.now in
    let i = c.loop-over.over-index in
    rw c.min-least.ensures (most_more (arcs_in c.args.residual.now.net.now) c.args.residual.now.on.now path i c.loop-over.least c.room.result c.loop-over.invariant c.room.ensures.some
    (λ d. rw (get_or_default path i d (record { arc = 0; forward = false }) c.loop-over-test.true) c.room.ensures.carries)
    (λ below all. c.room.ensures.most below (all (record { arc = 0; forward = false }))))

pub room-requires : goal.room-requires
room-requires c = record { carries = c.requires.carries c.loop-over.over-index (record { arc = 0; forward = false }) c.loop-over-test.true }

pub returns-clause-carries : goal.returns-clause-carries
returns-clause-carries c = λ k d lt. c.loop-over.invariant.carries k d (omega (arith, lt, c.loop-over-test.false))
