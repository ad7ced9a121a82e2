-- The start alone is marked at first; in the end all marked nodes are done, or the goal is found.
use Rattle.std.proofs.Common.{◌≡◌, ◌≤◌, ◌++◌, Some, None, [], ◌∷◌, length, set, replicate, ap, ◌∙◌, inl, inr, arith}
use Rattle.saga_flow.specs.Search.{HasGoal}
use Rattle.saga_flow.proofs.SearchLemmas.{search_start, search_end}
use Rattle.saga_flow.proofs.searching.search.Goals as goal
use Rattle.saga_flow.proofs.searching.search.Goals.{then-loop-next-test+else-not-is_found, else-loop-next-test}

pub loop-next-init : goal.loop-next-init
loop-next-init g c =
    let marks_are : c.begin.new.self ≡ set (replicate c.args.graph.now.nodes None) c.args.start (Some (record { depth = 0; by = None })) = c.begin.ensures ∙ ap (λ xs. set xs c.args.start (Some (record { depth = 0; by = None }))) c.in_ok-none.ensures in
    let order_is : c.push.new.self.items ≡ c.args.start ∷ [] = c.in_ok-push.ensures.items ∙ ap (λ xs. xs ++ c.args.start ∷ []) c.in_ok-with_capacity.ensures.items in
    rw (marks_are, order_is) (search_start c.args.graph.now.nodes c.args.graph.now.arcs.now (g.G.Gate.passes c.args.gate.now) c.args.start c.requires.start)

pub returns : goal.returns
returns g c =
    let found = c.loop-next.found in
    let nodes = c.args.graph.now.nodes in
    elim c.loop-next-test.branch [
      | then-loop-next-test+else-not-is_found w ↦
          (let goal_found : HasGoal c.args.goal found.marks = w.is_found.ensures w.if-not-is_found.false in
          search_end nodes c.args.graph.now.arcs.now (g.G.Gate.passes c.args.gate.now) c.args.start found.marks found.order.items c.loop-next.next c.loop-next.invariant c.args.goal (inr goal_found))
      | else-loop-next-test w ↦
          (let all : length found.order.items ≤ c.loop-next.next = omega (arith, w.loop-next-test.false, c.len.ensures, found.order.ok.0) in
          search_end nodes c.args.graph.now.arcs.now (g.G.Gate.passes c.args.gate.now) c.args.start found.marks found.order.items c.loop-next.next c.loop-next.invariant c.args.goal (inl all))
    ]
