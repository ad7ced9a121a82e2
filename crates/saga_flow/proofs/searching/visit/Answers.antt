-- The residual arcs along arcs and those back are gone through.
use Rattle.std.proofs.Common.{◌≡◌, ◌+◌, Some, length, vec_len, slice_get, ap, arith}
use Rattle.std.proofs.lemmas.Option.{slice_get_read}
use Rattle.saga_flow.proofs.SearchLemmas.{depth_within}
use Rattle.saga_flow.proofs.VisitLemmas.{now_within, visit_end}
use Rattle.saga_flow.proofs.searching.visit.Given as given
use Rattle.saga_flow.proofs.searching.visit.Goals as goal
use Rattle.saga_flow.proofs.searching.visit.Goals.{After-index-node}

-- the node at hand was read from the order
at_hand : (g : given.Over) (c : After-index-node g) → slice_get c.args.found.now.order.items c.args.next ≡ Some c.index-node.result.now
at_hand g c =
    let sized : vec_len c.args.found.now.order ≡ length c.args.found.now.order.items = omega (arith, c.args.found.now.order.ok.0) in
    slice_get_read c.args.found.now.order.items (vec_len c.args.found.now.order) c.args.next c.index-node.result.now sized (omega (arith, sized, c.requires.next)) c.index-node.ensures

pub depth-requires : goal.depth-requires
depth-requires g c =
    let at = (goal.at.depth-requires g c).After-index-node in
    let inside = now_within c.args.graph.now.nodes c.args.graph.now.arcs.now (g.G.Gate.passes c.args.gate.now) c.args.start c.args.found.now.marks c.args.found.now.order.items c.args.next c.index-node.result.now c.requires.search (at_hand g at) in
    omega (arith, inside, c.requires.search.sized)

pub overflow_add-place : goal.overflow_add-place
overflow_add-place g c =
    let at = (goal.at.overflow_add-place g c).After-index-node in
    let inside = depth_within c.args.graph.now.nodes c.args.graph.now.arcs.now (g.G.Gate.passes c.args.gate.now) c.args.start c.args.found.now.marks c.args.found.now.order.items c.args.next c.index-node.result.now c.requires.search (at_hand g at) in
    omega (arith, inside, c.depth.ensures, c.args.graph.now.small)

pub visit_arcs-requires-clause-visit : goal.visit_arcs-requires-clause-visit
visit_arcs-requires-clause-visit g c = record {
  search = c.requires.search;
  now = at_hand g (goal.at.visit_arcs-requires-clause-visit g c).After-index-node;
  deep = ap (λ x. x + 1) c.depth.ensures;
}

pub returns : goal.returns
returns g c =
    visit_end c.args.graph.now.nodes c.args.graph.now.arcs.now (g.G.Gate.passes c.args.gate.now) (record { start = c.args.start; next = c.args.next; node = c.index-node.result.now; depth = c.depth.result + 1 }) c.visit_arcs-2.new.found c.in_ok-visit_arcs-2.ensures.visit
    (λ s v way lead pass. c.in_ok-visit_arcs-2.ensures.kept v (c.in_ok-visit_arcs.ensures.seen s v way lead pass))
    c.in_ok-visit_arcs-2.ensures.seen
