use Rattle.saga_order.proofs.RankLemmas.{read_rank}
use Rattle.saga_order.proofs.orders.Order.rank.Goals as goal

pub returns : goal.returns
returns c =
    read_rank _ c.args.self.now c.self.inside.ranks.items c.self.invariant.ranks c.self.view_is c.args.step c.index.result.now c.requires c.index.ensures
