use Rattle.std.proofs.Common.{◌∙◌}
use Rattle.saga_work.specs.Answered.{IsWork}
use Rattle.saga_work.proofs.AddedLemmas.{adds_on, claims_on, claims_same}
use Rattle.saga_work.proofs.workers.work.Goals as goal

pub returns-in-Ends-clause-adds : goal.returns-in-Ends-clause-adds
returns-in-Ends-clause-adds g c =
    adds_on IsWork c.args.seat c.loop.seat c.take_turn.new.seat
    c.loop.invariant.2 c.take_turn.ensures.adds

pub returns-in-Ends-clause-ended : goal.returns-in-Ends-clause-ended
returns-in-Ends-clause-ended g c = claims_on _ c.take_turn.new.seat _ _ c.loop.invariant.3 (rw c.in-Ends.is at c.take_turn.ensures.ended)

pub loop-preserved : goal.loop-preserved
loop-preserved g c = (
  tt,
  tt,
  adds_on IsWork c.args.seat c.loop.seat c.take_turn.new.seat
      c.loop.invariant.2 c.take_turn.ensures.adds,
  claims_same c.take_turn.new.seat c.loop.seat.claims (rw c.in_default.is at c.take_turn.ensures.ended) ∙ c.loop.invariant.3,
  c.take_turn.ensures.rung,
)
