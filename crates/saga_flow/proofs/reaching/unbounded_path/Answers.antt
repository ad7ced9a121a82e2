-- A search backward from the sink marks the nodes from which unbounded arcs lead to it.
use Rattle.std.proofs.Common.{sym, Some, ◌∙◌}
use Rattle.saga_flow.specs.Listed.{turned, IsEndless, LeadsEndless}
use Rattle.saga_flow.specs.Search.{IsSearchTree, IsHomeArc}
use Rattle.saga_flow.proofs.LevelLemmas.{trail_by}
use Rattle.saga_flow.proofs.FlowLemmas.{endless_apart, home_endless}
use Rattle.saga_flow.proofs.reaching.unbounded_path.Goals as goal
use Rattle.saga_flow.proofs.reaching.unbounded_path.Goals.{In_ok-marks}

tree : (c : In_ok-marks) → IsSearchTree c.args.net.now.nodes c.args.net.now.arcs (λ s. IsEndless c.args.net.now.arcs (turned s)) 1 (Some 0) c.in_ok-marks.marks
tree c =
    let g = c.in_ok-graph.graph in
    let found : IsSearchTree g.nodes g.arcs.now (λ s. IsEndless g.arcs.now (turned s)) 1 (Some 0) c.in_ok-marks.marks = c.in_ok-marks.ensures in
    rw (c.in_ok-graph.ensures.nodes, c.in_ok-graph.ensures.arcs) at found

pub returns-then-not-is_marked-clause-none : goal.returns-then-not-is_marked-clause-none
returns-then-not-is_marked-clause-none c =
    let net = c.args.net.now in
    let marks = c.in_ok-marks.marks in
    let t = tree (goal.at.returns-then-not-is_marked-clause-none c).In_ok-marks in
    endless_apart net.nodes net.arcs marks t (sym c.is_marked.ensures ∙ c.if-not-is_marked.true)

pub nodes_of-requires : goal.nodes_of-requires
nodes_of-requires c =
    let g = c.in_ok-graph.graph in
    let marks = c.in_ok-marks.marks in
    let t : IsSearchTree g.nodes g.arcs.now (λ s. IsEndless g.arcs.now (turned s)) 1 (Some 0) marks = c.in_ok-marks.ensures in
    rw c.as_slice.ensures.value (trail_by (IsHomeArc g.arcs.now marks) (LeadsEndless g.arcs.now) c.in_ok-path.path.items 0 1 (home_endless g.nodes g.arcs.now marks t) c.in_ok-path.ensures)
