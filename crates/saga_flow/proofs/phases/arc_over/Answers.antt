-- The residual arc at hand leaves the node.
use Rattle.std.proofs.Common.{◌≡◌, ◌<◌, ◌≤◌, ◌+◌, length, get_or, ap, ◌∙◌, sym, arith}
use Rattle.std.proofs.lemmas.List.{get_or_read}
use Rattle.saga_flow.specs.Residual.{Leads}
use Rattle.saga_flow.specs.Marks.{far_of}
use Rattle.saga_flow.proofs.NetLemmas.{AreEnds-from_test}
use Rattle.saga_flow.proofs.ResidualArcLemmas.{leads_nodes}
use Rattle.saga_flow.proofs.AdjacencyLemmas.{place_short, place_leads}
use Rattle.saga_flow.proofs.phases.arc_over.Goals as goal
use Rattle.saga_flow.proofs.phases.arc_over.Goals.{After-index-in-loop-at}

low : (c : After-index-in-loop-at) → get_or c.adjacency-list.result.now.starts.items c.args.node 0 ≤ c.loop-at.at
low c =
    let starts = c.adjacency-list.result.now.starts.items in
    let list = c.adjacency-list.ensures in
    let end = get_or_read starts (c.args.node + 1) c.index-end.result.now (omega (arith, list.sized, c.requires.node)) c.index-end.ensures 0 in
    let first = get_or_read starts c.args.node c.index.result.now (omega (arith, list.sized, c.requires.node)) c.index.ensures 0 in
    omega (arith, end, first, list.rises c.args.node c.requires.node, c.min-many.ensures, c.loop-at.invariant)

high : (c : After-index-in-loop-at) → c.loop-at.at < get_or c.adjacency-list.result.now.starts.items (c.args.node + 1) 0
high c =
    let starts = c.adjacency-list.result.now.starts.items in
    let end = get_or_read starts (c.args.node + 1) c.index-end.result.now (omega (arith, c.adjacency-list.ensures.sized, c.requires.node)) c.index-end.ensures 0 in
    omega (arith, end, c.loop-at-test.true)

short : (c : After-index-in-loop-at) → c.loop-at.at < length c.adjacency-list.result.now.arcs.items
short c =
    let list = c.adjacency-list.result.now in
    place_short c.args.graph.now.nodes c.args.graph.now.arcs.now c.args.forward list.starts.items list.arcs.items list.heads.items c.adjacency-list.ensures c.args.node c.loop-at.at c.requires.node (low c) (high c)

leads : (c : After-index-in-loop-at) → Leads c.args.graph.now.arcs.now (record { arc = get_or c.adjacency-list.result.now.arcs.items c.loop-at.at 0; forward = c.args.forward }) c.args.node (get_or c.adjacency-list.result.now.heads.items c.loop-at.at 0)
leads c =
    let list = c.adjacency-list.result.now in
    place_leads c.args.graph.now.nodes c.args.graph.now.arcs.now c.args.forward list.starts.items list.arcs.items list.heads.items c.adjacency-list.ensures c.args.node c.loop-at.at c.requires.node (low c) (high c)

head_read : (c : After-index-in-loop-at) → c.index-in-loop-at.result.now ≡ get_or c.adjacency-list.result.now.heads.items c.loop-at.at 0
head_read c = get_or_read c.adjacency-list.result.now.heads.items c.loop-at.at c.index-in-loop-at.result.now (omega (arith, short c, c.adjacency-list.ensures.heads_sized)) c.index-in-loop-at.ensures 0

pub is_nearer-requires : goal.is_nearer-requires
is_nearer-requires c =
    let at = (goal.at.is_nearer-requires c).After-index-in-loop-at in
    let ends = AreEnds-from_test c.args.graph.now.nodes c.args.graph.now.arcs.now c.args.graph.now.net.ends in
    omega (arith, head_read at, (leads_nodes c.args.graph.now.nodes c.args.graph.now.arcs.now _ _ _ ends (leads at)).1, c.requires.marks)

pub returns-then-lets_pass-clause-nearer : goal.returns-then-lets_pass-clause-nearer
returns-then-lets_pass-clause-nearer c =
    let at = (goal.at.returns-then-lets_pass-clause-nearer c).After-index-in-loop-at in
    let arc : c.index-then-is_nearer.result.now ≡ get_or c.adjacency-list.result.now.arcs.items c.loop-at.at 0 = get_or_read c.adjacency-list.result.now.arcs.items c.loop-at.at c.index-then-is_nearer.result.now (short at) c.index-then-is_nearer.ensures 0 in
    let lead : Leads c.args.graph.now.arcs.now (record { arc = c.index-then-is_nearer.result.now; forward = c.args.forward }) c.args.node c.index-in-loop-at.result.now = rw (arc, head_read at) (leads at) in
    let above = c.is_nearer.ensures.0 c.if-is_nearer.true in (
      (lead, c.lets_pass.ensures.0 c.if-lets_pass.true),
      sym c.far-far.ensures ∙ sym above.2 ∙ ap (λ x. x + 1) (sym (ap (far_of (length c.args.marks.now)) above.1)),
    )
