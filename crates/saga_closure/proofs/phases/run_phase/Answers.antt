-- Each path rises a level at each step, and so is a round.
use Rattle.std.proofs.Common.{ℕ, ◌≡◌, ◌<◌, ◌∙◌, List, length, get_or, ap, inl, rules, arith}
use Rattle.std.proofs.lemmas.List.{get_or_default}
use Rattle.saga_case.specs.Terms.{Terms}
use Rattle.saga_flow.specs.Levels.{Climbs}
use Rattle.saga_flow.specs.Rounds.{IsTrail}
use Rattle.saga_flow.proofs.PhaseLemmas.{climb_carries, climb_once, climb_fits, climb_round}
use Rattle.saga_closure.specs.CaseNet.{network_of}
use Rattle.saga_closure.specs.Layers.{node_level}
use Rattle.saga_closure.specs.Nets.{terms_in, arcs_in}
use Rattle.saga_closure.proofs.PathLemmas.{levelled, low}
use Rattle.saga_closure.proofs.phases.run_phase.Goals as goal
use Rattle.saga_closure.proofs.phases.run_phase.Goals.{After-as_slice-2, After-index-to}

climb : (c : After-as_slice-2) → IsTrail (Climbs (arcs_in c.args.net.now) c.args.progress.now.on.items (node_level c.args.goal.depth c.args.found.now.level.items)) 0 c.as_slice-2.result.now 1
climb c = rw c.as_slice-2.ensures.value (rw c.as_slice.ensures.value at c.in_ok-path_to.ensures)

pub path_to-requires : goal.path_to-requires
path_to-requires c = rw c.as_slice.ensures.value c.requires.at

pub send_along-requires-clause-carries : goal.send_along-requires-clause-carries
send_along-requires-clause-carries c =
    let t : Terms = terms_in c.args.net.now in
    let up = climb (goal.at.send_along-requires-clause-carries c).After-as_slice-2 in
    climb_carries (network_of t).nodes _ _ _ _ up

pub send_along-requires-clause-once : goal.send_along-requires-clause-once
send_along-requires-clause-once c =
    let t : Terms = terms_in c.args.net.now in
    let up = climb (goal.at.send_along-requires-clause-once c).After-as_slice-2 in
    climb_once (network_of t).nodes _ _ _ _ up

pub send_along-requires-clause-fits : goal.send_along-requires-clause-fits
send_along-requires-clause-fits c =
    let t : Terms = terms_in c.args.net.now in
    let up = climb (goal.at.send_along-requires-clause-fits c).After-as_slice-2 in
    climb_fits (network_of t).nodes _ _ _ _ up _ _ c.requires.network c.requires.apart c.requires.progress

pub loop-j-init : goal.loop-j-init
loop-j-init c =
    let t : Terms = terms_in c.args.net.now in
    let up = climb (goal.at.loop-j-init c).After-as_slice-2 in
    let found = c.args.found.now in
    let at = c.requires.at in
    let begun = levelled t c.args.progress.now.on.items found.level.items found.labelled.items found.order.items c.args.goal.first (length found.order.items) c.args.goal.first c.args.goal.depth c.args.net.now.known at.search in
    let under = low t c.args.progress.now.on.items found.level.items found.labelled.items found.order.items c.args.goal.first (length found.order.items) c.args.goal.first c.args.goal.depth c.args.net.now.known at.search in
    let after = climb_round (network_of t).nodes (network_of t).arcs c.args.progress.now c.send_along.new.progress (node_level c.args.goal.depth found.level.items) c.as_slice-2.result.now c.requires.network c.requires.apart c.requires.progress begun under up c.send_along.ensures.round in
    let same : c.in_ok-alive.alive.items ≡ found.level.items = search rules in
    let sized : length c.in_ok-alive.alive.items ≡ length found.level.items = ap length same in
    record { alive = omega (arith, sized, c.in_ok-alive.alive.ok.0, at.search.sized); thinned = λ v. inl (ap (λ (xs : List ℕ). get_or xs v 0) same); left = omega (arith, c.in_ok-left.ensures.len, c.steps.ensures.count); levelled = after.1; progress = after.0; small = after.3; more = after.2; rows = c.send_along.ensures.rows }

-- the step at hand stands in the layer
at_hand : (c : After-index-to) → (c.index-to.result.now < (terms_in c.args.net.now).count) × (get_or c.args.found.now.level.items c.index-to.result.now 0 ≡ c.args.goal.depth)
at_hand c =
    let order : List ℕ = c.args.found.now.order.items in
    let lt : c.loop-j.j < length order = omega (arith, c.loop-j-test.true, c.len-j-end.ensures, c.args.found.now.order.ok.0) in
    let is : c.index-to.result.now ≡ get_or order c.loop-j.j 0 = c.index-to.ensures ∙ get_or_default order c.loop-j.j c.index-to.result.now 0 lt in
    rw is (c.requires.at.search.inside c.loop-j.j lt, c.requires.at.search.here c.loop-j.j (omega (arith, c.loop-j.auto)) lt)

pub send_to-requires-clause-goal : goal.send_to-requires-clause-goal
send_to-requires-clause-goal c = (at_hand (goal.at.send_to-requires-clause-goal c).After-index-to).0

pub send_to-requires-clause-last : goal.send_to-requires-clause-last
send_to-requires-clause-last c = rw c.deref-in-loop-j.ensures.value (at_hand (goal.at.send_to-requires-clause-last c).After-index-to).1
