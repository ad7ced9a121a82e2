-- Each step of the walk leads from one a level lower, and what is taken off leads back to where the walk came from.
use Rattle.std.proofs.Common.{ℕ, ◌≡◌, ◌≤◌, ◌+◌, true, List, length, get_or, arith}
use Rattle.saga_case.specs.Terms.{Terms}
use Rattle.saga_flow.specs.Levels.{Climbs}
use Rattle.saga_closure.specs.Layers.{node_level}
use Rattle.saga_closure.specs.Nets.{terms_in, arcs_in}
use Rattle.saga_closure.proofs.NetLemmas.{own_capacities}
use Rattle.saga_closure.proofs.PathLemmas.{climbs, climbs_in, climbs_out, trail_one, trail_front, trail_pop, thin_lower, thin_more}
use Rattle.saga_closure.proofs.VisitLemmas.{out_from_room, opened_in}
use Rattle.saga_closure.proofs.walking.walk_back.Goals as goal

pub loop-v-init : goal.loop-v-init
loop-v-init c =
    let net = c.args.residual.now.net.now in
    let on : List ℕ = c.args.residual.now.on.now in
    let t : Terms = terms_in net in
    let level : List ℕ = c.args.level.now in
    let many : c.steps-count.result ≡ length c.args.residual.now.net.now.definition.now.steps = c.steps-count.ensures.count in
    let some = rw many at c.room_along.ensures in
    record {
      inside = c.requires.goal;
      low = omega (arith, c.requires.last);
      alive = c.requires.alive;
      thinned = c.requires.thinned;
      left = c.requires.left;
      trail = rw (c.in_ok-push.ensures.items, many) (trail_one (Climbs (arcs_in net) on (node_level c.args.depth level)) c.clear.new.self.items (record { arc = t.count + c.args.goal; forward = true }) (2 + c.args.goal) 1 c.clear.ensures.items
          (climbs_out t c.args.residual.now.on.now level c.args.depth c.args.goal (record { arc = t.count + c.args.goal; forward = true })
          (out_from_room t net.caps.now c.args.residual.now.on.now c.args.goal (own_capacities net.definition.now net.caps.now net.sized net.small) c.requires.goal (omega (arith, some, c.if-room_along-eq0.false))) c.requires.last));
    }

pub loop-v-preserved-in-Some : goal.loop-v-preserved-in-Some
loop-v-preserved-in-Some c =
    let net = c.args.residual.now.net.now in
    let on : List ℕ = c.args.residual.now.on.now in
    let t : Terms = terms_in net in
    let level : List ℕ = c.args.level.now in
    let few : c.args.depth ≤ 1024 = omega (arith, c.requires.low, net.few) in
    let lower = thin_lower level c.loop-v.alive.items c.loop-v.v c.in-Some.back.from c.args.depth c.loop-v.invariant.thinned (rw c.as_slice.ensures.value at c.in-Some.ensures.lower) c.loop-v.invariant.low few in
    let one = climbs t c.args.residual.now.on.now level c.args.depth c.in-Some.back.from c.loop-v.v c.in-Some.back.by c.in-Some.ensures.opened lower c.loop-v.invariant.low in
    record {
      inside = c.in-Some.ensures.inside;
      low = omega (arith, lower, c.loop-v.invariant.low);
      alive = c.loop-v.invariant.alive;
      thinned = c.loop-v.invariant.thinned;
      left = c.loop-v.invariant.left;
      trail = rw c.in_ok-push-in-Some.ensures.items (trail_front (Climbs (arcs_in net) on (node_level c.args.depth level)) c.loop-v.path.items c.in-Some.back.by (2 + c.in-Some.back.from) (2 + c.loop-v.v) 1 one c.loop-v.invariant.trail);
    }

pub ends-v-requires-clause-inside : goal.ends-v-requires-clause-inside
ends-v-requires-clause-inside c =
    let many : c.steps-count.result ≡ length c.args.residual.now.net.now.definition.now.steps = c.steps-count.ensures.count in
    let popped = trail_pop (terms_in c.args.residual.now.net.now) c.args.residual.now.on.now c.args.level.now c.args.depth c.loop-v.v c.loop-v.path.items c.pop.new.self.items c.in-Some-pop.over c.args.residual.now.net.now.known c.in-Some-pop.ensures.items c.loop-v.invariant.trail (omega (arith, many, c.if-over-count.false)) in
    popped.0

pub loop-v-preserved : goal.loop-v-preserved
loop-v-preserved c =
    let many : c.steps-count.result ≡ length c.args.residual.now.net.now.definition.now.steps = c.steps-count.ensures.count in
    let popped = trail_pop (terms_in c.args.residual.now.net.now) c.args.residual.now.on.now c.args.level.now c.args.depth c.loop-v.v c.loop-v.path.items c.pop.new.self.items c.in-Some-pop.over c.args.residual.now.net.now.known c.in-Some-pop.ensures.items c.loop-v.invariant.trail (omega (arith, many, c.if-over-count.false)) in
    record {
      inside = c.ends-v.ensures.head_inside;
      low = rw c.ends-v.ensures.head popped.1;
      alive = omega (arith, c.give_up.ensures.len, c.loop-v.invariant.alive);
      thinned = rw c.give_up.ensures.items (thin_more c.args.level.now c.loop-v.alive.items c.loop-v.v (omega (arith, c.loop-v.invariant.inside, c.loop-v.invariant.alive, c.loop-v.alive.ok.0)) c.loop-v.invariant.thinned);
      left = c.loop-v.invariant.left;
      trail = rw c.ends-v.ensures.head popped.2;
    }

pub returns-clause-found : goal.returns-clause-found
returns-clause-found c =
    let net = c.args.residual.now.net.now in
    let on : List ℕ = c.args.residual.now.on.now in
    let t : Terms = terms_in net in
    let level : List ℕ = c.args.level.now in
    let none_left : get_or level c.loop-v.v 0 ≡ 0 = omega (arith, c.if-level-v-gt0.false) in
    let goes = opened_in t net.caps.now c.args.residual.now.on.now c.loop-v.v (own_capacities net.definition.now net.caps.now net.sized net.small) c.loop-v.invariant.inside (omega (arith, c.room_along-else-level-v-gt0.ensures, c.if-room_along-eq0-2.false)) in
    let one = climbs_in t c.args.residual.now.on.now level c.args.depth c.loop-v.v (record { arc = c.loop-v.v; forward = true }) goes none_left in
    λ _. rw (c.reverse.ensures.items, c.in_ok-push-2.ensures.items) (trail_front (Climbs (arcs_in net) on (node_level c.args.depth level)) c.loop-v.path.items (record { arc = c.loop-v.v; forward = true }) 0 (2 + c.loop-v.v) 1 one c.loop-v.invariant.trail)
