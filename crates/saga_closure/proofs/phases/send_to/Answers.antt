-- Each path rises a level at each step, and so is a round.
use Rattle.std.proofs.Common.{◌≤◌, arith}
use Rattle.saga_case.specs.Terms.{Terms}
use Rattle.saga_flow.specs.Levels.{Climbs}
use Rattle.saga_flow.specs.Rounds.{IsTrail}
use Rattle.saga_flow.proofs.PhaseLemmas.{climb_carries, climb_within, climb_once, climb_fits, climb_round}
use Rattle.saga_closure.specs.CaseNet.{network_of}
use Rattle.saga_closure.specs.Layers.{node_level}
use Rattle.saga_closure.specs.Nets.{terms_in, arcs_in}
use Rattle.saga_closure.proofs.phases.send_to.Goals as goal
use Rattle.saga_closure.proofs.phases.send_to.Goals.{After-as_slice-in-loop-path}

climb : (c : After-as_slice-in-loop-path) → IsTrail (Climbs (arcs_in c.args.net.now) c.loop-path.progress.on.items (node_level c.args.depth c.args.level.now)) 0 c.as_slice-in-loop-path.result.now 1
climb c = rw c.as_slice-in-loop-path.ensures.value (rw c.as_slice.ensures.value at (c.in_ok-walk_back.ensures.found c.if-branch.true))

pub send_along-requires-clause-carries : goal.send_along-requires-clause-carries
send_along-requires-clause-carries c =
    let t : Terms = terms_in c.args.net.now in
    climb_carries (network_of t).nodes _ _ _ _ (climb (goal.at.send_along-requires-clause-carries c).After-as_slice-in-loop-path)

pub send_along-requires-clause-once : goal.send_along-requires-clause-once
send_along-requires-clause-once c =
    let t : Terms = terms_in c.args.net.now in
    climb_once (network_of t).nodes _ _ _ _ (climb (goal.at.send_along-requires-clause-once c).After-as_slice-in-loop-path)

pub send_along-requires-clause-fits : goal.send_along-requires-clause-fits
send_along-requires-clause-fits c =
    let t : Terms = terms_in c.args.net.now in
    climb_fits (network_of t).nodes _ _ _ _ (climb (goal.at.send_along-requires-clause-fits c).After-as_slice-in-loop-path) _ _ c.requires.network c.requires.apart c.loop-path.invariant.progress

pub put_back-requires-clause-steps : goal.put_back-requires-clause-steps
put_back-requires-clause-steps c =
    let t : Terms = terms_in c.args.net.now in
    let up = climb (goal.at.put_back-requires-clause-steps c).After-as_slice-in-loop-path in
    rw c.as_slice-in-loop-path-2.ensures.value (rw c.as_slice-in-loop-path.ensures.value at (climb_within (network_of t).nodes _ _ _ _ up))

pub loop-path-preserved : goal.loop-path-preserved
loop-path-preserved c =
    let t : Terms = terms_in c.args.net.now in
    let up = climb (goal.at.loop-path-preserved c).After-as_slice-in-loop-path in
    let low : node_level c.args.depth c.args.level.now 1 ≤ (network_of t).nodes = omega (arith, c.requires.low) in
    let after = climb_round (network_of t).nodes (network_of t).arcs c.loop-path.progress c.send_along.new.progress (node_level c.args.depth c.args.level.now) c.as_slice-in-loop-path.result.now c.requires.network c.requires.apart c.loop-path.invariant.progress c.loop-path.invariant.levelled low up c.send_along.ensures.round in
    record { alive = omega (arith, c.in_ok-walk_back.ensures.alive, c.loop-path.invariant.alive); thinned = c.in_ok-walk_back.ensures.thinned; left = omega (arith, c.in_ok-walk_back.ensures.left, c.loop-path.invariant.left); levelled = after.1; progress = after.0; small = after.3; more = omega (arith, after.2, c.loop-path.invariant.more); rows = c.send_along.ensures.rows }
