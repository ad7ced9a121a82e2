-- Each step of the way back came from one a level lower.
use Rattle.std.proofs.Common.{ℕ, ◌≡◌, ◌+◌, ◌∙◌, true, List, get_or, arith}
use Rattle.std.proofs.lemmas.List.{get_or_default}
use Rattle.saga_case.specs.Terms.{Terms}
use Rattle.saga_flow.specs.Levels.{Climbs}
use Rattle.saga_closure.specs.Layers.{node_level}
use Rattle.saga_closure.specs.Nets.{terms_in, arcs_in}
use Rattle.saga_closure.proofs.PathLemmas.{climbs, climbs_in, climbs_out, trail_one, trail_front, came_in}
use Rattle.saga_closure.proofs.paths.path_to.Goals as goal
use Rattle.saga_closure.proofs.paths.path_to.Goals.{After-index, In-loop-goal}

-- the level that is read
read : (c : After-index) → c.index.result.now ≡ get_or c.args.found.now.level.items c.loop-goal.v 0
read c = c.index.ensures ∙ get_or_default c.args.found.now.level.items c.loop-goal.v c.index.result.now 0 (omega (arith, c.loop-goal.invariant.inside, c.requires.search.sized))

pub index-requires : goal.index-requires
index-requires c = omega (arith, c.loop-goal.invariant.inside, c.requires.search.sized, c.args.found.now.level.ok.0)

pub loop-goal-init : goal.loop-goal-init
loop-goal-init c =
    let net = c.args.residual.now.net.now in
    let on : List ℕ = c.args.residual.now.on.now in
    let t : Terms = terms_in net in
    let level : List ℕ = c.args.found.now.level.items in
    let many : c.steps-count.result ≡ t.count = c.steps-count.ensures.count in
    record {
      inside = c.requires.inside;
      low = omega (arith, c.requires.level);
      trail = rw (c.in_ok-push.ensures.items, many) (trail_one (Climbs (arcs_in net) on (node_level c.args.goal.depth level)) c.clear.new.self.items (record { arc = t.count + c.args.goal.step; forward = true }) (2 + c.args.goal.step) 1 c.clear.ensures.items
          (climbs_out t c.args.residual.now.on.now level c.args.goal.depth c.args.goal.step (record { arc = t.count + c.args.goal.step; forward = true }) c.requires.goes c.requires.level));
    }

pub came_by-back-requires-clause-above : goal.came_by-back-requires-clause-above
came_by-back-requires-clause-above c = omega (arith, read (goal.at.came_by-back-requires-clause-above c).After-index, c.loop-goal-test.true)

pub loop-goal-preserved : goal.loop-goal-preserved
loop-goal-preserved c =
    let net = c.args.residual.now.net.now in
    let on : List ℕ = c.args.residual.now.on.now in
    let t : Terms = terms_in net in
    let level : List ℕ = c.args.found.now.level.items in
    let back = c.came_by-back.result in
    let one = climbs t on level c.args.goal.depth back.from c.loop-goal.v back.by c.came_by-back.ensures.opened c.came_by-back.ensures.lower c.loop-goal.invariant.low in
    record {
      inside = c.came_by-back.ensures.inside;
      low = omega (arith, c.came_by-back.ensures.lower, c.loop-goal.invariant.low);
      trail = rw c.in_ok-push-2.ensures.items (trail_front (Climbs (arcs_in net) on (node_level c.args.goal.depth level)) c.loop-goal.path.items back.by (2 + back.from) (2 + c.loop-goal.v) 1 one c.loop-goal.invariant.trail);
    }

pub loop-goal-smaller : goal.loop-goal-smaller
loop-goal-smaller c = omega (arith, c.came_by-back.ensures.lower)

pub returns : goal.returns
returns c =
    let net = c.args.residual.now.net.now in
    let on : List ℕ = c.args.residual.now.on.now in
    let t : Terms = terms_in net in
    let level : List ℕ = c.args.found.now.level.items in
    let none_left : get_or level c.loop-goal.v 0 ≡ 0 = omega (arith, read (goal.at.returns c).After-index, c.loop-goal-test.false) in
    let one = climbs_in t c.args.residual.now.on.now level c.args.goal.depth c.loop-goal.v (record { arc = c.loop-goal.v; forward = true }) (came_in t c.args.residual.now.on.now c.args.found.now c.args.goal c.loop-goal.v c.requires c.loop-goal.invariant.inside none_left) none_left in
    rw (c.reverse.ensures.items, c.in_ok-push-3.ensures.items) (trail_front (Climbs (arcs_in net) on (node_level c.args.goal.depth level)) c.loop-goal.path.items (record { arc = c.loop-goal.v; forward = true }) 0 (2 + c.loop-goal.v) 1 one c.loop-goal.invariant.trail)
