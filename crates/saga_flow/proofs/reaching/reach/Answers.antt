-- The marked nodes are those that the source reaches.
use Rattle.std.proofs.Common.{◌≡◌, ◌<◌, false, None, length, get_or, sym, ap, ◌∙◌, arith, is_some}
use Rattle.std.proofs.lemmas.Result.{IfOk-weaker}
use Rattle.std.proofs.lemmas.List.{get_or-map}
use Rattle.saga_flow.specs.Residual.{Carries}
use Rattle.saga_flow.specs.Search.{IsSearchTree}
use Rattle.saga_flow.specs.Marks.{mark_at}
use Rattle.saga_flow.proofs.FlowLemmas.{marks_sound, marks_whole}
use Rattle.saga_flow.proofs.reaching.reach.Goals as goal
use Rattle.saga_flow.proofs.reaching.reach.Goals.{In_ok-marks}

tree : (c : In_ok-marks) → IsSearchTree c.args.net.now.nodes c.args.net.now.arcs (Carries c.args.net.now.arcs c.args.flow.now.on.items 1) 0 None c.in_ok-marks.marks
tree c =
    let g = c.in_ok-graph.graph in
    let found : IsSearchTree g.nodes g.arcs.now (Carries g.arcs.now c.as_slice.result.now 1) 0 None c.in_ok-marks.marks = c.in_ok-marks.ensures in
    rw (c.in_ok-graph.ensures.nodes, c.in_ok-graph.ensures.arcs, c.as_slice.ensures.value) at found

pub returns-clause-exact : goal.returns-clause-exact
returns-clause-exact c =
    let t = tree (goal.at.returns-clause-exact c).In_ok-marks in
    let marks = c.in_ok-marks.marks in
    let net = c.args.net.now in
    let on = c.args.flow.now.on.items in
    IfOk-weaker c.all.result _ _ (λ r is node inside.
    let short : node < length marks = omega (arith, t.sized) in
    let read : get_or r.items node false ≡ is_some (mark_at marks node) = ap (λ xs. get_or xs node false) is ∙ get_or-map is_some marks node None false short in
    (λ test. marks_sound net.nodes net.arcs on marks t node (sym read ∙ test), λ reached. read ∙ marks_whole net.nodes net.arcs on marks t node reached)) c.all.ensures
