use Rattle.std.proofs.lemmas.List.{take_all, take_more}
use Rattle.saga_order.proofs.LawLemmas.{ordered_from_sound}
use Rattle.saga_order.proofs.TopologicalLemmas.{needs_within}
use Rattle.saga_order.proofs.RankLemmas.{ranks_more, ranks_all}
use Rattle.saga_order.specs.Shape.{shape_of}
use Rattle.saga_order.proofs.ranks.ranks_of.Goals as goal

pub next_rank-requires-clause-within : goal.next_rank-requires-clause-within
next_rank-requires-clause-within c =
    rw (c.deref.ensures.value, c.loop-step.invariant.sized)
    (needs_within (shape_of c.args.definition.now) _ c.needs_of.result.now (ordered_from_sound c.args.definition.now c.needs_of.ensures.sound) c.needs_of.ensures.exact)

pub loop-step-preserved : goal.loop-step-preserved
loop-step-preserved c =
    let order = c.args.order.now in
    let i = c.loop-step.step-index in
    rw (take_more order i 0 c.loop-step-test.true)
    (ranks_more (shape_of c.args.definition.now) _ c.needs_of.result.now c.loop-step.ranks.items _ c.next_rank.result
    (c.requires.in_order.within i 0 c.loop-step-test.true) c.needs_of.ensures.exact
    (λ a direct. c.requires.in_order.earlier i a c.loop-step-test.true direct)
    c.loop-step.invariant (rw c.deref.ensures.value at c.next_rank.ensures))

pub returns : goal.returns
returns c =
    ranks_all (shape_of c.args.definition.now) _ c.args.order.now c.loop-step.ranks.items
    (take_all c.loop-step.step-index c.args.order.now c.loop-step-test.false) c.requires c.loop-step.invariant
