use Rattle.std.proofs.Common.{take}
use Rattle.saga_order.proofs.RankLemmas.{AreRanksOf}
use Rattle.saga_order.specs.Shape.{shape_of}
use Rattle.saga_order.proofs.ranks.ranks_of.Given as goal

abbrev pub invariant-loop-step : goal.invariant-loop-step
invariant-loop-step l = AreRanksOf (shape_of l.definition) (take l.step-index l.order) l.ranks.items
