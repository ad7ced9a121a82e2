use Rattle.std.proofs.Common.{drop}
use Rattle.saga_flow.proofs.AmountLemmas.{IsPushing}
use Rattle.saga_flow.proofs.pushes.push.Given as goal

abbrev pub invariant-loop-residual : goal.invariant-loop-residual
invariant-loop-residual l = IsPushing l.initial.on l.path l.more l.on (drop l.residual-index l.path)
