use Rattle.saga_flow.proofs.AmountLemmas.{IsMost}
use Rattle.saga_flow.proofs.pushes.most_along.Given as goal

abbrev pub invariant-loop-residual : goal.invariant-loop-residual
invariant-loop-residual l = IsMost l.arcs l.on l.path l.residual-index l.least
