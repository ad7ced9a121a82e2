use Rattle.saga_order.proofs.TransitiveLemmas.{read_closure}
use Rattle.saga_order.proofs.orders.Order.precedes.Goals as goal

pub returns : goal.returns
returns c =
    read_closure _ c.args.self.now c.self.inside.closure.items c.self.invariant.closure c.self.view_is c.args.a c.args.b c.index.result.now c.contains.result c.requires.also_known c.index.ensures c.contains.ensures
