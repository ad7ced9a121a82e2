-- A path of two arcs rises a level with each, where each step has the lowest level.
use Rattle.std.proofs.Common.{ℕ, ◌≡◌, ◌<◌, ◌≤◌, ◌+◌, ◌^◌, ◌∙◌, [], List, length, get_or, length-set, min, ap, refl, arith}
use Rattle.saga_case.specs.Terms.{Terms}
use Rattle.saga_flow.specs.declared.rounds.Progress.{Progress}
use Rattle.saga_flow.specs.Levels.{Climbs, IsLevelled}
use Rattle.saga_flow.specs.Progress.{IsProgress, AddsRound}
use Rattle.saga_flow.specs.Rounds.{IsTrail, pushed}
use Rattle.saga_flow.proofs.PhaseLemmas.{climb_fits, climb_round}
use Rattle.saga_closure.specs.declared.nets.ClosureNet.{ClosureNet}
use Rattle.saga_closure.specs.Capacities.{room_at}
use Rattle.saga_closure.specs.CaseNet.{network_of}
use Rattle.saga_closure.specs.Layers.{node_level}
use Rattle.saga_closure.specs.Nets.{terms_in, arcs_in}
use Rattle.saga_closure.proofs.ApartLemmas.{over_step, straight_sided, goes_on_in, goes_on_out, step_carries, step_push}
use Rattle.saga_closure.proofs.ArcLemmas.{arcs_sized}
use Rattle.saga_closure.proofs.NetLemmas.{own_capacities}
use Rattle.saga_closure.proofs.PathLemmas.{straight, flat}
use Rattle.saga_closure.proofs.pairs.send_over.Goals as goal
use Rattle.saga_closure.proofs.pairs.send_over.Goals.{Then-more-gt0, After-count_round}

-- what is known once something goes
record IsSent (net : ClosureNet) (old : Progress) (v more : ℕ) : Type 0 where
  amount : more ≡ min (room_at net.caps.now old.on.items v) (room_at net.caps.now old.on.items ((terms_in net).count + v))
  some : 0 < more
  long : (terms_in net).count + (terms_in net).count ≤ length old.on.items
  climb : IsTrail (Climbs (arcs_in net) old.on.items (node_level 0 [])) 0 (over_step v ((terms_in net).count + v)) 1
  fits : old.value + more < 2 ^ 63

sent : (c : Then-more-gt0) → IsSent c.args.net.now c.args.progress.now c.args.v c.least_room-more.result
sent c =
    let net = c.args.net.now in
    let t : Terms = terms_in net in
    let on : List ℕ = c.args.progress.now.on.items in
    let are = own_capacities net.definition.now net.caps.now net.sized net.small in
    let many : c.steps.result ≡ t.count = c.steps.ensures.count in
    let amount : c.least_room-more.result ≡ min (room_at net.caps.now on c.args.v) (room_at net.caps.now on (t.count + c.args.v)) = rw (c.as_slice.ensures.value, many) at c.least_room-more.ensures in
    let some : 0 < c.least_room-more.result = omega (arith, c.if-more-gt0.true) in
    let into = goes_on_in t net.caps.now on c.args.v c.args.v c.least_room-more.result are c.requires.inside c.requires.inside amount some in
    let out = goes_on_out t net.caps.now on c.args.v c.args.v c.least_room-more.result are c.requires.inside c.requires.inside amount some in
    let climb = straight t on c.args.v into out in
    record {
      amount = amount;
      some = some;
      long = omega (arith, c.requires.progress.flow.sized, arcs_sized t);
      climb = climb;
      fits = climb_fits (network_of t).nodes (arcs_in net) on (node_level 0 []) (over_step c.args.v (t.count + c.args.v)) climb c.args.progress.now.value c.args.progress.now.rounds c.requires.network c.requires.apart c.requires.progress c.least_room-more.result (step_carries t net.caps.now on c.args.v c.least_room-more.result are c.requires.inside amount some);
    }

pub add-requires-clause-within : goal.add-requires-clause-within
add-requires-clause-within c =
    let is = sent (goal.at.add-requires-clause-within c).Then-more-gt0 in
    omega (arith, is.long, c.requires.inside)

pub add-requires-then-more-gt0-clause-within : goal.add-requires-then-more-gt0-clause-within
add-requires-then-more-gt0-clause-within c =
    let is = sent (goal.at.add-requires-then-more-gt0-clause-within c).Then-more-gt0 in
    let on : List ℕ = c.args.progress.now.on.items in
    omega (arith, is.long, c.steps.ensures.count, c.requires.inside, ap length c.add.ensures.on, length-set on c.args.v (get_or on c.args.v 0 + c.least_room-more.result))

added : (c : After-count_round) → c.count_round.new.progress.on.items ≡ pushed c.args.progress.now.on.items (over_step c.args.v ((terms_in c.args.net.now).count + c.args.v)) c.least_room-more.result
added c =
    let many : c.steps.result ≡ (terms_in c.args.net.now).count = c.steps.ensures.count in
    c.count_round.ensures.on ∙ c.add-then-more-gt0.ensures.on ∙ rw (c.add.ensures.on, many) refl

-- the round
round : (c : After-count_round) → IsSent c.args.net.now c.args.progress.now c.args.v c.least_room-more.result → AddsRound (arcs_in c.args.net.now) (over_step c.args.v ((terms_in c.args.net.now).count + c.args.v)) c.args.progress.now c.count_round.new.progress
round c is =
    let net = c.args.net.now in
    let t : Terms = terms_in net in
    let on : List ℕ = c.args.progress.now.on.items in
    let are = own_capacities net.definition.now net.caps.now net.sized net.small in
    let push = step_push t net.caps.now on c.args.v c.least_room-more.result are c.requires.inside is.amount is.some (omega (arith, is.fits)) in
    record {
      amount = c.least_room-more.result;
      push = record {
        some = push.some;
        carries = push.carries;
        most = push.most;
        adds = added c;
      };
      value = omega (arith, c.count_round.ensures.value, c.add-then-more-gt0.ensures.value, c.add.ensures.value);
      rounds = omega (arith, c.count_round.ensures.rounds, c.add-then-more-gt0.ensures.rounds, c.add.ensures.rounds);
    }

after : (c : After-count_round) → IsSent c.args.net.now c.args.progress.now c.args.v c.least_room-more.result → IsProgress (network_of (terms_in c.args.net.now)).nodes (arcs_in c.args.net.now) c.count_round.new.progress.on.items c.count_round.new.progress.value c.count_round.new.progress.rounds × IsLevelled (arcs_in c.args.net.now) c.count_round.new.progress.on.items (node_level 0 []) × (c.args.progress.now.value < c.count_round.new.progress.value) × (c.count_round.new.progress.value < 2 ^ 63)
after c is =
    let t : Terms = terms_in c.args.net.now in
    let low : node_level 0 [] 1 ≤ (network_of t).nodes = omega arith in
    climb_round (network_of t).nodes (network_of t).arcs c.args.progress.now c.count_round.new.progress (node_level 0 []) _ c.requires.network c.requires.apart c.requires.progress (flat t c.args.progress.now.on.items) low is.climb (round c is)

pub returns-then-more-gt0-clause-progress : goal.returns-then-more-gt0-clause-progress
returns-then-more-gt0-clause-progress c = (after (goal.at.returns-then-more-gt0-clause-progress c).After-count_round (sent (goal.at.returns-then-more-gt0-clause-progress c).Then-more-gt0)).0

pub returns-then-more-gt0-clause-small : goal.returns-then-more-gt0-clause-small
returns-then-more-gt0-clause-small c = (after (goal.at.returns-then-more-gt0-clause-small c).After-count_round (sent (goal.at.returns-then-more-gt0-clause-small c).Then-more-gt0)).3

pub returns-then-more-gt0-clause-one_sided : goal.returns-then-more-gt0-clause-one_sided
returns-then-more-gt0-clause-one_sided c =
    let net = c.args.net.now in
    let t : Terms = terms_in net in
    let is = sent (goal.at.returns-then-more-gt0-clause-one_sided c).Then-more-gt0 in
    let on : List ℕ = c.args.progress.now.on.items in
    let are = own_capacities net.definition.now net.caps.now net.sized net.small in
    let push = step_push t net.caps.now on c.args.v c.least_room-more.result are c.requires.inside is.amount is.some (omega (arith, is.fits)) in
    straight_sided t net.caps.now on c.count_round.new.progress.on.items c.args.v c.least_room-more.result are c.requires.inside is.long (added (goal.at.returns-then-more-gt0-clause-one_sided c).After-count_round) push.most
