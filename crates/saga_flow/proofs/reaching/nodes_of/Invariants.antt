use Rattle.std.proofs.Common.{drop}
use Rattle.saga_flow.proofs.FlowLemmas.{IsWalk}
use Rattle.saga_flow.proofs.reaching.nodes_of.Given as goal

abbrev pub invariant-loop-residual : goal.invariant-loop-residual
invariant-loop-residual l = IsWalk l.arcs l.nodes.items (drop l.residual-index l.path)
