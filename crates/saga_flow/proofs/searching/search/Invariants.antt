use Rattle.std.proofs.Common.{◌-◌}
use Rattle.saga_flow.specs.Search.{IsSearching}
use Rattle.saga_flow.proofs.searching.search.Given as goal

abbrev pub invariant-loop-next : goal.invariant-loop-next
invariant-loop-next g l = IsSearching l.graph.nodes l.graph.arcs.now (g.G.Gate.passes l.gate) l.start l.found l.next

abbrev pub decreases-loop-next : goal.decreases-loop-next
decreases-loop-next g l = l.graph.nodes - l.next
