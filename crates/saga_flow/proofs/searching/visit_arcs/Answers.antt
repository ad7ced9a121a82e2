-- Each residual arc leads to a node that is new, to one that is marked, or does not pass.
use Rattle.std.proofs.Common.{ℕ, ◌≡◌, ◌<◌, ◌≤◌, ◌+◌, ◌∙◌, length, get_or, sym, arith}
use Rattle.std.proofs.lemmas.Bool.{true≢false}
use Rattle.std.proofs.lemmas.List.{get_or_read}
use Rattle.saga_flow.specs.declared.residual_arcs.ResidualArc.{ResidualArc}
use Rattle.saga_flow.specs.declared.searching.Found.{Found}
use Rattle.saga_flow.specs.Residual.{Leads}
use Rattle.saga_flow.proofs.NetLemmas.{AreEnds-from_test}
use Rattle.saga_flow.proofs.ResidualArcLemmas.{leads_nodes}
use Rattle.saga_flow.proofs.AdjacencyLemmas.{place_short, place_known, place_leads}
use Rattle.saga_flow.proofs.SearchLemmas.{none_marked, some_marked, depth_less}
use Rattle.saga_flow.proofs.VisitLemmas.{IsMore, now_within, visit_new, visit_old, seen_next, steps_seen}
use Rattle.saga_flow.proofs.searching.visit_arcs.Given as given
use Rattle.saga_flow.proofs.searching.visit_arcs.Goals as goal
use Rattle.saga_flow.proofs.searching.visit_arcs.Goals.{After-index-end, After-index, then-not-is_marked+then-lets_pass+in_ok-add_mark, then-not-is_marked+else-lets_pass, else-not-is_marked}

-- the node at hand is one of the nodes
inside : (g : given.Over) (c : After-index-end g) → c.args.place.node < c.args.graph.now.nodes
inside g c =
    now_within c.args.graph.now.nodes c.args.graph.now.arcs.now (g.G.Gate.passes c.args.gate.now) c.args.place.start c.args.found.now.marks c.args.found.now.order.items c.args.place.next c.args.place.node c.requires.visit.search c.requires.visit.now

first_read : (g : given.Over) (c : After-index-end g) → c.index-first.result.now ≡ get_or c.adjacency-list.result.now.starts.items c.args.place.node 0
first_read g c = get_or_read c.adjacency-list.result.now.starts.items c.args.place.node c.index-first.result.now (omega (arith, inside g c, c.adjacency-list.ensures.sized)) c.index-first.ensures 0

end_read : (g : given.Over) (c : After-index-end g) → c.index-end.result.now ≡ get_or c.adjacency-list.result.now.starts.items (c.args.place.node + 1) 0
end_read g c = get_or_read c.adjacency-list.result.now.starts.items (c.args.place.node + 1) c.index-end.result.now (omega (arith, inside g c, c.adjacency-list.ensures.sized)) c.index-end.ensures 0

-- a place between is one of the list's
short : (g : given.Over) (c : After-index-end g) (p : ℕ) → c.index-first.result.now ≤ p → p < c.index-end.result.now → p < length c.adjacency-list.result.now.arcs.items
short g c p low high =
    let list = c.adjacency-list.result.now in
    place_short c.args.graph.now.nodes c.args.graph.now.arcs.now c.args.forward list.starts.items list.arcs.items list.heads.items c.adjacency-list.ensures c.args.place.node p (inside g c) (omega (arith, low, first_read g c)) (omega (arith, high, end_read g c))

known : (g : given.Over) (c : After-index-end g) (p : ℕ) → c.index-first.result.now ≤ p → p < c.index-end.result.now → get_or c.adjacency-list.result.now.arcs.items p 0 < length c.args.graph.now.arcs.now
known g c p low high =
    let list = c.adjacency-list.result.now in
    place_known c.args.graph.now.nodes c.args.graph.now.arcs.now c.args.forward list.starts.items list.arcs.items list.heads.items c.adjacency-list.ensures c.args.place.node p (inside g c) (omega (arith, low, first_read g c)) (omega (arith, high, end_read g c))

leads : (g : given.Over) (c : After-index-end g) (p : ℕ) → c.index-first.result.now ≤ p → p < c.index-end.result.now → Leads c.args.graph.now.arcs.now (record { arc = get_or c.adjacency-list.result.now.arcs.items p 0; forward = c.args.forward }) c.args.place.node (get_or c.adjacency-list.result.now.heads.items p 0)
leads g c p low high =
    let list = c.adjacency-list.result.now in
    place_leads c.args.graph.now.nodes c.args.graph.now.arcs.now c.args.forward list.starts.items list.arcs.items list.heads.items c.adjacency-list.ensures c.args.place.node p (inside g c) (omega (arith, low, first_read g c)) (omega (arith, high, end_read g c))

-- where the residual arc at hand leads
head_read : (g : given.Over) (c : After-index g) → c.loop-at.at < length c.adjacency-list.result.now.arcs.items → c.index.result.now ≡ get_or c.adjacency-list.result.now.heads.items c.loop-at.at 0
head_read g c lt = get_or_read c.adjacency-list.result.now.heads.items c.loop-at.at c.index.result.now (omega (arith, lt, c.adjacency-list.ensures.heads_sized)) c.index.ensures 0

head_inside : (g : given.Over) (c : After-index g) → c.loop-at.at < length c.adjacency-list.result.now.arcs.items → Leads c.args.graph.now.arcs.now (record { arc = get_or c.adjacency-list.result.now.arcs.items c.loop-at.at 0; forward = c.args.forward }) c.args.place.node (get_or c.adjacency-list.result.now.heads.items c.loop-at.at 0) → c.index.result.now < c.args.graph.now.nodes
head_inside g c lt lead =
    let ends = AreEnds-from_test c.args.graph.now.nodes c.args.graph.now.arcs.now c.args.graph.now.net.ends in
    omega (arith, head_read g c lt, (leads_nodes c.args.graph.now.nodes c.args.graph.now.arcs.now _ _ _ ends lead).1)

pub index-requires : goal.index-requires
index-requires g c =
    let at = (goal.at.index-requires g c).After-index-end in
    omega (arith, short g at c.loop-at.at c.loop-at.invariant.low c.loop-at-test.true, c.adjacency-list.ensures.heads_sized, c.adjacency-list.result.now.heads.ok.0)

pub is_marked-requires : goal.is_marked-requires
is_marked-requires g c =
    let at = goal.at.is_marked-requires g c in
    let lt = short g at.After-index-end c.loop-at.at c.loop-at.invariant.low c.loop-at-test.true in
    let lead = leads g at.After-index-end c.loop-at.at c.loop-at.invariant.low c.loop-at-test.true in
    omega (arith, head_inside g at.After-index lt lead, c.loop-at.invariant.visit.search.sized)

pub index-requires-then-not-is_marked : goal.index-requires-then-not-is_marked
index-requires-then-not-is_marked g c =
    let at = (goal.at.index-requires-then-not-is_marked g c).After-index-end in
    omega (arith, short g at c.loop-at.at c.loop-at.invariant.low c.loop-at-test.true, c.adjacency-list.result.now.arcs.ok.0)

pub lets_pass-requires : goal.lets_pass-requires
lets_pass-requires g c =
    let at = (goal.at.lets_pass-requires g c).After-index-end in
    let arc : c.index-then-not-is_marked.result.now ≡ get_or c.adjacency-list.result.now.arcs.items c.loop-at.at 0 = get_or_read c.adjacency-list.result.now.arcs.items c.loop-at.at c.index-then-not-is_marked.result.now (short g at c.loop-at.at c.loop-at.invariant.low c.loop-at-test.true) c.index-then-not-is_marked.ensures 0 in
    omega (arith, arc, known g at c.loop-at.at c.loop-at.invariant.low c.loop-at-test.true, c.requires.asked)

pub add_mark-requires-clause-node : goal.add_mark-requires-clause-node
add_mark-requires-clause-node g c =
    let at = goal.at.add_mark-requires-clause-node g c in
    let lt = short g at.After-index-end c.loop-at.at c.loop-at.invariant.low c.loop-at-test.true in
    let lead = leads g at.After-index-end c.loop-at.at c.loop-at.invariant.low c.loop-at-test.true in
    omega (arith, head_inside g at.After-index lt lead, c.loop-at.invariant.visit.search.sized)

pub add_mark-requires-clause-below : goal.add_mark-requires-clause-below
add_mark-requires-clause-below g c = omega (arith, c.loop-at.invariant.visit.deep)

pub add_mark-requires-clause-depth : goal.add_mark-requires-clause-depth
add_mark-requires-clause-depth g c =
    let at = goal.at.add_mark-requires-clause-depth g c in
    let lt = short g at.After-index-end c.loop-at.at c.loop-at.invariant.low c.loop-at-test.true in
    let lead = leads g at.After-index-end c.loop-at.at c.loop-at.invariant.low c.loop-at-test.true in
    let visit = c.loop-at.invariant.visit in
    let fresh = none_marked c.loop-at.found.marks c.index.result.now (sym c.is_marked.ensures ∙ c.if-not-is_marked.true) in
    let less = depth_less c.args.graph.now.nodes c.args.graph.now.arcs.now (g.G.Gate.passes c.args.gate.now) c.args.place.start c.loop-at.found.marks c.loop-at.found.order.items c.args.place.next c.args.place.node c.index.result.now visit.search visit.now (head_inside g at.After-index lt lead) fresh in
    omega (arith, less, visit.deep, c.args.graph.now.small)

pub loop-at-preserved : goal.loop-at-preserved
loop-at-preserved g c =
    let at = goal.at.loop-at-preserved g c in
    let nodes = c.args.graph.now.nodes in
    let arcs = c.args.graph.now.arcs.now in
    let passes : ResidualArc → Type 0 = g.G.Gate.passes c.args.gate.now in
    let list = c.adjacency-list.result.now in
    let old : Found = c.loop-at.found in
    let to : ℕ = c.index.result.now in
    let inv = c.loop-at.invariant in
    let fits_arc = short g at.After-index-end c.loop-at.at inv.low c.loop-at-test.true in
    let leads_on = leads g at.After-index-end c.loop-at.at inv.low c.loop-at-test.true in
    let head = head_read g at.After-index fits_arc in
    let within = head_inside g at.After-index fits_arc leads_on in
    let fits : to < length old.marks = omega (arith, within, inv.visit.search.sized) in
    elim c.if-not-is_marked.branch [
      | then-not-is_marked+then-lets_pass+in_ok-add_mark w ↦
          (let arc : w.index-then-not-is_marked.result.now ≡ get_or list.arcs.items c.loop-at.at 0 = get_or_read list.arcs.items c.loop-at.at w.index-then-not-is_marked.result.now fits_arc w.index-then-not-is_marked.ensures 0 in
          let lead : Leads arcs (record { arc = w.index-then-not-is_marked.result.now; forward = c.args.forward }) c.args.place.node to = rw (arc, head) leads_on in
          let fresh = none_marked old.marks to (sym c.is_marked.ensures ∙ w.if-not-is_marked.true) in
          let more : IsMore nodes arcs passes c.args.place old w.add_mark.new.found to = visit_new nodes arcs passes c.args.place old w.add_mark.new.found to _ inv.visit lead (w.lets_pass.ensures.0 w.if-lets_pass.true) within fresh w.in_ok-add_mark.ensures in
          rw w.found-is (record {
            low = omega (arith, inv.low);
            visit = more.visit;
            kept = λ v seen. more.kept v (inv.kept v seen);
            seen = seen_next passes c.args.forward list.arcs.items list.heads.items old.marks w.add_mark.new.found.marks c.args.place.depth c.index-first.result.now c.loop-at.at inv.seen more.kept (λ pass. rw head at more.here);
          }))
      | then-not-is_marked+else-lets_pass w ↦
          (let arc : w.index-then-not-is_marked.result.now ≡ get_or list.arcs.items c.loop-at.at 0 = get_or_read list.arcs.items c.loop-at.at w.index-then-not-is_marked.result.now fits_arc w.index-then-not-is_marked.ensures 0 in
          rw w.found-is (record {
            low = omega (arith, inv.low);
            visit = inv.visit;
            kept = inv.kept;
            seen = seen_next passes c.args.forward list.arcs.items list.heads.items old.marks old.marks c.args.place.depth c.index-first.result.now c.loop-at.at inv.seen (λ v seen. seen)
                (λ pass.
                let through : passes (record { arc = w.index-then-not-is_marked.result.now; forward = c.args.forward }) = rw arc pass in
                absurd (true≢false (sym (w.lets_pass.ensures.1 through) ∙ w.if-lets_pass.false)));
          }))
      | else-not-is_marked w ↦
          (let marked = some_marked old.marks to (sym c.is_marked.ensures ∙ w.if-not-is_marked.false) in
          let there = visit_old nodes arcs passes c.args.place old to marked.0 inv.visit marked.1 in
          rw w.found-is (record {
            low = omega (arith, inv.low);
            visit = inv.visit;
            kept = inv.kept;
            seen = seen_next passes c.args.forward list.arcs.items list.heads.items old.marks old.marks c.args.place.depth c.index-first.result.now c.loop-at.at inv.seen (λ v seen. seen) (λ pass. rw head at there);
          }))
    ]

pub returns-clause-seen : goal.returns-clause-seen
returns-clause-seen g c =
    let at = (goal.at.returns-clause-seen g c).After-index-end in
    let list = c.adjacency-list.result.now in
    steps_seen c.args.graph.now.nodes c.args.graph.now.arcs.now (g.G.Gate.passes c.args.gate.now) c.args.forward list.starts.items list.arcs.items list.heads.items c.loop-at.found.marks c.args.place.node c.args.place.depth (inside g at) c.adjacency-list.ensures
    (λ p low high pass. c.loop-at.invariant.seen p (omega (arith, low, first_read g at)) (omega (arith, high, end_read g at, c.loop-at-test.false)) pass)
