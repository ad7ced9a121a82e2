use Rattle.saga_flow.proofs.AmountLemmas.{IsMost}
use Rattle.saga_closure.specs.Nets.{arcs_in}
use Rattle.saga_closure.proofs.pushes.most_along.Given as goal

abbrev pub invariant-loop-over : goal.invariant-loop-over
invariant-loop-over l = IsMost (arcs_in l.residual.net.now) l.residual.on.now l.path l.over-index l.least
