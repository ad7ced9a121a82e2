use Rattle.std.proofs.Common.{ℕ, ◌≤◌}
use Rattle.saga_flow.specs.Search.{IsSeen, IsVisiting}
use Rattle.saga_flow.proofs.VisitLemmas.{AreSeen}
use Rattle.saga_flow.proofs.searching.visit_arcs.Given as goal

abbrev pub invariant-loop-at : goal.invariant-loop-at
invariant-loop-at g l = record {
  low : l.first ≤ l.at;
  visit : IsVisiting l.graph.nodes l.graph.arcs.now (g.G.Gate.passes l.gate) l.place l.found;
  kept : (v : ℕ) → IsSeen l.fn.found.marks v l.place.depth → IsSeen l.found.marks v l.place.depth;
  seen : AreSeen (g.G.Gate.passes l.gate) l.forward l.list.arcs.items l.list.heads.items l.found.marks l.place.depth l.first l.at;
}
