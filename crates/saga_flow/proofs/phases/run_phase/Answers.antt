-- The search's own path leads nearer at each residual arc, and so does each that is found further; each is a round.
use Rattle.std.proofs.Common.{◌-◌, ◌∙◌, arith}
use Rattle.saga_flow.specs.Levels.{Nears, Climbs}
use Rattle.saga_flow.specs.Search.{IsHomeArc}
use Rattle.saga_flow.specs.Rounds.{IsTrail}
use Rattle.saga_flow.specs.Marks.{far_in}
use Rattle.saga_flow.proofs.LevelLemmas.{trail_by}
use Rattle.saga_flow.proofs.TreeLemmas.{home_nears, near_levelled, near_low}
use Rattle.saga_flow.proofs.PathLemmas.{nears_climb}
use Rattle.saga_flow.proofs.PhaseLemmas.{climb_carries, climb_within, climb_once, climb_fits, climb_round}
use Rattle.saga_flow.proofs.phases.run_phase.Goals as goal
use Rattle.saga_flow.proofs.phases.run_phase.Goals.{After-as_slice, After-as_slice-in-loop-path-2}

first : (c : After-as_slice) → IsTrail (Climbs c.args.graph.now.arcs.now c.args.progress.now.on.items (λ v. far_in c.args.marks.now 0 - far_in c.args.marks.now v)) 0 c.as_slice.result.now 1
first c =
    let arcs = c.args.graph.now.arcs.now in
    let on = c.args.progress.now.on.items in
    let marks = c.args.marks.now in
    let nears = trail_by (IsHomeArc arcs marks) (Nears arcs on (far_in marks)) c.in_ok-path.path.items 0 1 (home_nears (c.args.graph.now.nodes) arcs on marks c.requires.tree) c.in_ok-path.ensures in
    rw c.as_slice.ensures.value (nears_climb arcs on (far_in marks) (far_in marks 0) c.in_ok-path.path.items 0 1 (omega arith) nears)

further : (c : After-as_slice-in-loop-path-2) → IsTrail (Climbs c.args.graph.now.arcs.now c.loop-path.progress.on.items (λ v. far_in c.args.marks.now 0 - far_in c.args.marks.now v)) 0 c.as_slice-in-loop-path-2.result.now 1
further c =
    let arcs = c.args.graph.now.arcs.now in
    let on = c.loop-path.progress.on.items in
    let marks = c.args.marks.now in
    let nears : IsTrail (Nears arcs on (far_in marks)) 0 c.next_path.new.path.items 1 = rw c.as_slice-in-loop-path.ensures.value at (c.in_ok-next_path.ensures.found c.if-branch.true) in
    rw c.as_slice-in-loop-path-2.ensures.value (nears_climb arcs on (far_in marks) (far_in marks 0) c.next_path.new.path.items 0 1 (omega arith) nears)

pub augment-requires-clause-carries : goal.augment-requires-clause-carries
augment-requires-clause-carries c =
    climb_carries (c.args.graph.now.nodes) _ _ _ _ (first (goal.at.augment-requires-clause-carries c).After-as_slice)

pub augment-requires-clause-once : goal.augment-requires-clause-once
augment-requires-clause-once c =
    climb_once (c.args.graph.now.nodes) _ _ _ _ (first (goal.at.augment-requires-clause-once c).After-as_slice)

pub augment-requires-clause-fits : goal.augment-requires-clause-fits
augment-requires-clause-fits c =
    climb_fits (c.args.graph.now.nodes) _ _ _ _ (first (goal.at.augment-requires-clause-fits c).After-as_slice) _ _ c.args.graph.now.net c.requires.apart c.requires.progress

pub loop-path-init : goal.loop-path-init
loop-path-init c =
    let nodes = c.args.graph.now.nodes in
    let arcs = c.args.graph.now.arcs.now in
    let on = c.args.progress.now.on.items in
    let marks = c.args.marks.now in
    let after = climb_round nodes arcs c.args.progress.now c.augment.new.progress (λ v. far_in marks 0 - far_in marks v) c.as_slice.result.now c.args.graph.now.net c.requires.apart c.requires.progress (near_levelled nodes arcs on marks c.requires.tree) (near_low nodes arcs on marks c.requires.tree) (first (goal.at.loop-path-init c).After-as_slice) c.augment.ensures in
    record { progress = after.0; levelled = after.1; left = c.in_ok-left.ensures.len ∙ c.degrees.ensures; small = after.3; more = after.2 }

pub augment-requires-in-loop-path-clause-carries : goal.augment-requires-in-loop-path-clause-carries
augment-requires-in-loop-path-clause-carries c =
    climb_carries (c.args.graph.now.nodes) _ _ _ _ (further (goal.at.augment-requires-in-loop-path-clause-carries c).After-as_slice-in-loop-path-2)

pub augment-requires-in-loop-path-clause-once : goal.augment-requires-in-loop-path-clause-once
augment-requires-in-loop-path-clause-once c =
    climb_once (c.args.graph.now.nodes) _ _ _ _ (further (goal.at.augment-requires-in-loop-path-clause-once c).After-as_slice-in-loop-path-2)

pub augment-requires-in-loop-path-clause-fits : goal.augment-requires-in-loop-path-clause-fits
augment-requires-in-loop-path-clause-fits c =
    climb_fits (c.args.graph.now.nodes) _ _ _ _ (further (goal.at.augment-requires-in-loop-path-clause-fits c).After-as_slice-in-loop-path-2) _ _ c.args.graph.now.net c.requires.apart c.loop-path.invariant.progress

pub put_back-requires-clause-steps : goal.put_back-requires-clause-steps
put_back-requires-clause-steps c =
    let climb = further (goal.at.put_back-requires-clause-steps c).After-as_slice-in-loop-path-2 in
    rw c.as_slice-in-loop-path-3.ensures.value (rw c.as_slice-in-loop-path-2.ensures.value at (climb_within (c.args.graph.now.nodes) _ _ _ _ climb))

pub loop-path-preserved : goal.loop-path-preserved
loop-path-preserved c =
    let nodes = c.args.graph.now.nodes in
    let arcs = c.args.graph.now.arcs.now in
    let marks = c.args.marks.now in
    let climb = further (goal.at.loop-path-preserved c).After-as_slice-in-loop-path-2 in
    let after = climb_round nodes arcs c.loop-path.progress c.augment-in-loop-path.new.progress (λ v. far_in marks 0 - far_in marks v) c.as_slice-in-loop-path-2.result.now c.args.graph.now.net c.requires.apart c.loop-path.invariant.progress c.loop-path.invariant.levelled (near_low nodes arcs c.args.progress.now.on.items marks c.requires.tree) climb c.augment-in-loop-path.ensures in
    record { progress = after.0; levelled = after.1; left = omega (arith, c.in_ok-next_path.ensures.left, c.loop-path.invariant.left); small = after.3; more = omega (arith, after.2, c.loop-path.invariant.more) }
