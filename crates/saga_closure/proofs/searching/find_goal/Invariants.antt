use Rattle.saga_closure.specs.Outs.{AreDry}
use Rattle.saga_closure.proofs.searching.find_goal.Given as goal

abbrev pub invariant-loop-j : goal.invariant-loop-j
invariant-loop-j l = AreDry l.residual l.order l.first l.j
