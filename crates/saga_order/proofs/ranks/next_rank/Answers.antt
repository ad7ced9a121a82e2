use Rattle.std.proofs.lemmas.List.{take_more}
use Rattle.saga_order.proofs.RankLemmas.{next_more}
use Rattle.saga_order.proofs.ranks.next_rank.Goals as goal

pub loop-on-preserved : goal.loop-on-preserved
loop-on-preserved c =
    rw (take_more c.args.needed.now c.loop-on.on-index 0 c.loop-on-test.true, c.max-rank.ensures)
    (next_more _ c.args.ranks.now _ c.loop-on.rank c.loop-on.invariant)
