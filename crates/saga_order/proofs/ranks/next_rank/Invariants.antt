use Rattle.std.proofs.Common.{take}
use Rattle.saga_order.specs.Rank.{IsNextRank}
use Rattle.saga_order.proofs.ranks.next_rank.Given as goal

abbrev pub invariant-loop-on : goal.invariant-loop-on
invariant-loop-on l = IsNextRank (take l.on-index l.needed) l.ranks l.rank
