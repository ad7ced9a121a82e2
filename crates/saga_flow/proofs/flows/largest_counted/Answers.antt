-- A search backward from the sink tells whether there is a further round, or the flow is a greatest one.
use Rattle.std.proofs.Common.{sym, ◌≡◌, ◌<◌, Some, false, ◌∙◌, arith}
use Rattle.std.specs.Prelude.{is_some}
use Rattle.saga_flow.specs.Network.{IsNetwork}
use Rattle.saga_flow.specs.Residual.{Carries}
use Rattle.saga_flow.specs.Listed.{turned}
use Rattle.saga_flow.specs.Search.{IsSearchTree}
use Rattle.saga_flow.specs.Progress.{IsProgress}
use Rattle.saga_flow.specs.Marks.{mark_at}
use Rattle.saga_flow.proofs.NetLemmas.{AreEnds-from_test}
use Rattle.saga_flow.proofs.FlowLemmas.{progress_start, progress_small, unmarked_greatest, unmarked_apart}
use Rattle.saga_flow.proofs.flows.largest_counted.Goals as goal
use Rattle.saga_flow.proofs.flows.largest_counted.Goals.{In_ok-marks, Then-not-is_marked}

-- the search was over the net
tree : (c : In_ok-marks) → IsSearchTree c.args.net.now.nodes c.args.net.now.arcs (λ s. Carries c.args.net.now.arcs c.loop-progress.progress.on.items 1 (turned s)) 1 (Some 0) c.in_ok-marks.marks
tree c =
    let g = c.in_ok-graph.graph in
    let found : IsSearchTree g.nodes g.arcs.now (λ s. Carries g.arcs.now c.as_slice.result.now 1 (turned s)) 1 (Some 0) c.in_ok-marks.marks = c.in_ok-marks.ensures in
    rw (c.in_ok-graph.ensures.nodes, c.in_ok-graph.ensures.arcs, c.as_slice.ensures.value) at found

sound : (c : In_ok-marks) → IsNetwork c.args.net.now
sound c = rw (c.in_ok-graph.ensures.nodes, c.in_ok-graph.ensures.arcs) at c.in_ok-graph.graph.net

pub loop-progress-init : goal.loop-progress-init
loop-progress-init c =
    let net = c.args.net.now in
    let two : 1 < net.nodes = omega (arith, c.in_ok-graph.graph.net.two, c.in_ok-graph.ensures.nodes) in
    let empty = c.in_ok-vec.ensures.items_if_clones_equal (λ y e. e) in
    record { progress = rw empty (rw c.in_ok-graph.ensures.arcs (progress_start net.nodes net.arcs two)); small = omega arith }

pub run_phase-requires-clause-tree : goal.run_phase-requires-clause-tree
run_phase-requires-clause-tree c =
    let g = c.in_ok-graph.graph in
    let found : IsSearchTree g.nodes g.arcs.now (λ s. Carries g.arcs.now c.as_slice.result.now 1 (turned s)) 1 (Some 0) c.in_ok-marks.marks = c.in_ok-marks.ensures in
    rw c.as_slice.ensures.value at found

pub loop-progress-preserved : goal.loop-progress-preserved
loop-progress-preserved c =
    let net = c.args.net.now in
    let new = c.run_phase.new.progress in
    let progress : IsProgress net.nodes net.arcs new.on.items new.value new.rounds = rw (c.in_ok-graph.ensures.nodes, c.in_ok-graph.ensures.arcs) at c.in_ok-run_phase.ensures.progress in
    record { progress = progress; small = progress_small net.nodes net.arcs new.on.items new.value new.rounds (sound (goal.at.loop-progress-preserved c).In_ok-marks) c.requires.apart progress }

-- the source has no mark
unmarked_source : (c : Then-not-is_marked) → IsSearchTree c.args.net.now.nodes c.args.net.now.arcs (λ s. Carries c.args.net.now.arcs c.loop-progress.progress.on.items 1 (turned s)) 1 (Some 0) c.in_ok-marks.marks → is_some (mark_at c.in_ok-marks.marks 0) ≡ false
unmarked_source c t =
    sym c.is_marked.ensures ∙ c.if-not-is_marked.true

pub returns-clause-greatest : goal.returns-clause-greatest
returns-clause-greatest c =
    let net = c.args.net.now in
    let at = goal.at.returns-clause-greatest c in
    let progress = c.loop-progress.invariant.progress in
    let t = tree at.In_ok-marks in
    unmarked_greatest net.nodes net.arcs c.loop-progress.progress.on.items c.in_ok-marks.marks t (unmarked_source at.Then-not-is_marked t) c.loop-progress.progress.value (AreEnds-from_test net.nodes net.arcs (sound at.In_ok-marks).ends) progress.flow progress.worth

pub returns-clause-cut : goal.returns-clause-cut
returns-clause-cut c =
    let net = c.args.net.now in
    let at = goal.at.returns-clause-cut c in
    let t = tree at.In_ok-marks in
    unmarked_apart net.nodes net.arcs c.loop-progress.progress.on.items c.in_ok-marks.marks t (unmarked_source at.Then-not-is_marked t)
