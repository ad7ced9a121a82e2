use Rattle.std.proofs.Common.{take}
use Rattle.std.specs.Prelude.{All}
use Rattle.saga_def.specs.Order.{member}
use Rattle.saga_order.proofs.ClosedLemmas.{StaysIn}
use Rattle.saga_order.proofs.orders.Order.is_closed.Given as goal

abbrev pub invariant-loop-need : goal.invariant-loop-need
invariant-loop-need l = All (StaysIn (member l.set)) (take l.need-index l.need-items)
