-- There is an amount for each arc that bears a price.
use Rattle.std.proofs.Common.{arith}
use Rattle.saga_closure.specs.Nets.{terms_in}
use Rattle.saga_closure.proofs.ArcLemmas.{arcs_sized}
use Rattle.saga_closure.proofs.rooms.room_along.Goals as goal

pub bounds-residual-arc-else-most : goal.bounds-residual-arc-else-most
bounds-residual-arc-else-most c =
    let net = c.args.residual.now.net.now in
    omega (arith, c.requires, c.args.residual.now.amounts, net.sized, arcs_sized (terms_in net))
