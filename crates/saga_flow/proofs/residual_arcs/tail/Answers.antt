-- The residual arc leads from the arc's one end to the other.
use Rattle.saga_flow.proofs.ResidualArcLemmas.{leads_along, leads_back}
use Rattle.saga_flow.proofs.residual_arcs.tail.Goals as goal

pub returns-then-residual : goal.returns-then-residual
returns-then-residual c = (_, leads_along c.args.arcs.now c.args.residual _ c.requires c.if-residual.true)

pub returns-else-residual : goal.returns-else-residual
returns-else-residual c = (_, leads_back c.args.arcs.now c.args.residual _ c.requires c.if-residual.false)
