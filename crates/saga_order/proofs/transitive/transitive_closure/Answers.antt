use Rattle.std.proofs.lemmas.List.{take_all, take_more}
use Rattle.saga_order.proofs.LawLemmas.{ordered_from_sound}
use Rattle.saga_order.proofs.TopologicalLemmas.{needs_within}
use Rattle.saga_order.proofs.TransitiveLemmas.{closure_more, closure_all}
use Rattle.saga_order.specs.Shape.{shape_of}
use Rattle.saga_order.proofs.transitive.transitive_closure.Goals as goal

pub preceding_over-requires-clause-within : goal.preceding_over-requires-clause-within
preceding_over-requires-clause-within c =
    rw (c.deref.ensures.value, c.loop-step.invariant.sized)
    (needs_within (shape_of c.args.definition.now) _ c.needs_of.result.now (ordered_from_sound c.args.definition.now c.needs_of.ensures.sound) c.needs_of.ensures.exact)

pub loop-step-preserved : goal.loop-step-preserved
loop-step-preserved c =
    let order = c.args.order.now in
    let i = c.loop-step.step-index in
    rw (take_more order i 0 c.loop-step-test.true)
    (closure_more (shape_of c.args.definition.now) _ c.needs_of.result.now c.loop-step.closure.items _ c.in_ok-preceding.preceding
    (c.requires.in_order.within i 0 c.loop-step-test.true) c.needs_of.ensures.exact
    (λ a direct. c.requires.in_order.earlier i a c.loop-step-test.true direct)
    c.loop-step.invariant (rw c.deref.ensures.value at c.in_ok-preceding.ensures))

pub returns : goal.returns
returns c =
    closure_all (shape_of c.args.definition.now) _ c.args.order.now c.loop-step.closure.items
    (take_all c.loop-step.step-index c.args.order.now c.loop-step-test.false) c.requires c.loop-step.invariant
