use Rattle.std.proofs.lemmas.Bool.{not-false}
use Rattle.std.proofs.Common.{◌^◌}
use Rattle.saga_closure.specs.Nets.{terms_in}
use Rattle.saga_closure.proofs.NetLemmas.{own_capacities}
use Rattle.saga_closure.proofs.RoomLemmas.{along_carries, link_carries}
use Rattle.saga_closure.proofs.rooms.room.Goals as goal

pub returns-then-over-residual : goal.returns-then-over-residual
returns-then-over-residual c =
    let net = c.args.residual.now.net.now in
    let is = along_carries (terms_in net) net.caps.now c.args.residual.now.on.now (own_capacities net.definition.now net.caps.now net.sized net.small) c.args.over (not-false _ c.if-not-over.false) c.if-over-residual.true c.requires.carries in
    rw c.room_along.ensures (record { some = is.0; carries = is.1; most = is.2 })

pub returns-else-over-residual-clause-carries : goal.returns-else-over-residual-clause-carries
returns-else-over-residual-clause-carries c =
    let net = c.args.residual.now.net.now in
    link_carries (terms_in net) net.caps.now c.args.residual.now.on.now (own_capacities net.definition.now net.caps.now net.sized net.small) c.args.over (not-false _ c.if-not-over.false) c.if-over-residual.false c.requires.carries (2 ^ 63)
