use Rattle.std.proofs.Common.{◌≡◌, ◌<◌, ◌∙◌, false, true, length, sym, ap}
use Rattle.std.proofs.lemmas.List.{get_or_read, with_items_is}
use Rattle.std.specs.Vec.{with_items}
use Rattle.saga_order.specs.TopologicalOrder.{HasVisited, is_marked}
use Rattle.saga_order.proofs.TopologicalLemmas.{all_call, all_visited}
use Rattle.saga_order.proofs.topological.topological_order.Goals as goal
use Rattle.saga_order.specs.Shape.{shape_of}
use Rattle.saga_order.proofs.topological.topological_order.Goals.{then-not-index+in_ok-visit, else-not-index}

pub loop-step-preserved : goal.loop-step-preserved
loop-step-preserved c =
    elim c.if-not-index.branch [
      | then-not-index+in_ok-visit w ↦
          let done : HasVisited (shape_of c.args.definition.now) c.loop-step.visited.items c.loop-step.order.items c.loop-step.step w.visit.new.visited w.visit.new.order.items =
          rw w.deref_mut.ensures.value at w.in_ok-visit.ensures in
          let items : (with_items c.loop-step.visited w.visit.new.visited).items ≡ w.visit.new.visited =
          with_items_is c.loop-step.visited w.visit.new.visited (done.sized ∙ (sym (ap length w.deref_mut.ensures.value) ∙ w.deref_mut.ensures.len)) in
          rw (w.visited-is, w.order-is, items) (all_call (shape_of c.args.definition.now) c.loop-step.visited.items c.loop-step.order.items c.loop-step.step w.visit.new.visited w.visit.new.order.items c.loop-step.invariant done)
      | else-not-index w ↦
          let within : c.loop-step.step < length c.loop-step.visited.items =
          rw (c.loop-step.invariant.sized, ← c.steps-count.ensures.count) c.loop-step-test.true in
          let is : is_marked c.loop-step.visited.items c.loop-step.step ≡ true =
          sym (get_or_read c.loop-step.visited.items c.loop-step.step c.index.result.now within c.index.ensures false) ∙ w.if-not-index.false in
          rw (w.visited-is, w.order-is) (all_visited (shape_of c.args.definition.now) c.loop-step.visited.items c.loop-step.order.items c.loop-step.step c.loop-step.invariant is)
    ]
