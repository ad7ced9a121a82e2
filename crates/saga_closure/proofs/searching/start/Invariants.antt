use Rattle.saga_closure.specs.Capacities.{room_at}
use Rattle.saga_closure.specs.Layers.{IsStart}
use Rattle.saga_closure.specs.Nets.{terms_in}
use Rattle.saga_closure.proofs.searching.start.Given as goal

abbrev pub invariant-loop-v : goal.invariant-loop-v
invariant-loop-v l = IsStart (room_at l.residual.net.now.caps.now l.residual.on.now) (terms_in l.residual.net.now).count l.found.level.items l.found.labelled.items l.found.order.items l.v
