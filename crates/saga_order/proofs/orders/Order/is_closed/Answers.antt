use Rattle.std.proofs.Common.{◌∙◌, ap}
use Rattle.std.proofs.lemmas.Bool.{both_ways}
use Rattle.std.proofs.lemmas.List.Elements.{All-more}
use Rattle.saga_def.specs.declared.steps.Need.{Need}
use Rattle.saga_def.specs.Order.{member}
use Rattle.saga_order.specs.Shape.{Shape}
use Rattle.saga_order.proofs.ClosedLemmas.{StaysIn, leads_out, stays_in}
use Rattle.saga_order.proofs.orders.Order.is_closed.Goals as goal
use Rattle.saga_order.proofs.orders.Order.is_closed.Goals.{else-set-need-via-then-set-need+else-not-set-need, else-set-need-via-else-set-need}

pub returns-then-not-set-need : goal.returns-then-not-set-need
returns-then-not-set-need c =
    leads_out c.all_needs-need-items.result.now c.args.self.now.needs (member c.args.set.now) c.loop-need.need-index (record { step = 0; on = 0 })
    (c.all_needs-need-items.ensures.items ∙ ap (λ (s : Shape). s.needs) c.self.view_is) c.loop-need-test.true c.if-set-need.true c.if-not-set-need.true

pub loop-need-preserved : goal.loop-need-preserved
loop-need-preserved c =
    let d : Need = record { step = 0; on = 0 } in
    All-more (StaysIn (member c.args.set.now)) c.all_needs-need-items.result.now c.loop-need.need-index d c.loop-need-test.true c.loop-need.invariant
    (elim c.else-set-need.branch [
      | else-set-need-via-then-set-need+else-not-set-need w ↦ λ in_set. w.if-not-set-need.false
      | else-set-need-via-else-set-need w ↦ λ in_set. absurd (both_ways _ w.if-set-need.false in_set)
    ])

pub returns : goal.returns
returns c =
    stays_in c.all_needs-need-items.result.now c.args.self.now.needs (member c.args.set.now) c.loop-need.need-index
    (c.all_needs-need-items.ensures.items ∙ ap (λ (s : Shape). s.needs) c.self.view_is) c.loop-need-test.false c.loop-need.invariant
