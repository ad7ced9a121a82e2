-- A path over a need rises a level with each arc, where none is shorter.
use Rattle.std.proofs.Common.{ℕ, ◌≡◌, ◌<◌, ◌≤◌, ◌+◌, ◌*◌, ◌^◌, ◌∙◌, true, List, length, get_or, length-set, get_or-set_other, min, ap, refl, arith}
use Rattle.saga_def.specs.Neighbours.{a_need}
use Rattle.saga_case.specs.Terms.{Terms}
use Rattle.saga_flow.specs.declared.rounds.Progress.{Progress}
use Rattle.saga_flow.specs.Residual.{IsOpen}
use Rattle.saga_flow.specs.Levels.{Climbs, IsLevelled}
use Rattle.saga_flow.specs.Progress.{IsProgress, AddsRound}
use Rattle.saga_flow.specs.Rounds.{IsTrail}
use Rattle.saga_flow.proofs.PhaseLemmas.{climb_fits, climb_round}
use Rattle.saga_closure.specs.declared.nets.ClosureNet.{ClosureNet}
use Rattle.saga_closure.specs.Capacities.{room_at}
use Rattle.saga_closure.specs.CaseNet.{network_of}
use Rattle.saga_closure.specs.Nets.{terms_in, arcs_in}
use Rattle.saga_closure.proofs.ApartLemmas.{by_need, climbs_by, goes_on_in, goes_on_out, need_carries, need_push}
use Rattle.saga_closure.proofs.ArcCases.{opens_link}
use Rattle.saga_closure.proofs.ArcLemmas.{arcs_sized}
use Rattle.saga_closure.proofs.NeighbourLemmas.{read_need}
use Rattle.saga_closure.proofs.NetLemmas.{own_capacities}
use Rattle.saga_closure.proofs.RowLemmas.{known_need}
use Rattle.saga_closure.proofs.pairs.send_by.Goals as goal
use Rattle.saga_closure.proofs.pairs.send_by.Goals.{Then-more-gt0, After-add, After-add-then-more-gt0, After-count_round}

-- what is known once something goes
record IsSent (net : ClosureNet) (old : Progress) (v u place more : ℕ) (level : ℕ → ℕ) : Type 0 where
  into : v < (terms_in net).count
  out : u < (terms_in net).count
  listed : place < length (terms_in net).needs
  amount : more ≡ min (room_at net.caps.now old.on.items v) (room_at net.caps.now old.on.items ((terms_in net).count + u))
  some : 0 < more
  long : (terms_in net).count + ((terms_in net).count + length (terms_in net).needs) ≡ length old.on.items
  climb : IsTrail (Climbs (arcs_in net) old.on.items level) 0 (by_need v ((terms_in net).count + ((terms_in net).count + place)) ((terms_in net).count + u)) 1
  fits : old.value + more < 2 ^ 63

sent : (c : Then-more-gt0) → IsSent c.args.net.now c.args.progress.now c.args.v c.args.u c.args.place c.least_room-more.result c.requires.far.level
sent c =
    let net = c.args.net.now in
    let t : Terms = terms_in net in
    let on : List ℕ = c.args.progress.now.on.items in
    let are = own_capacities net.definition.now net.caps.now net.sized net.small in
    let many : c.steps-count.result ≡ t.count = c.steps-count.ensures.count in
    let known = known_need t.needs t.count c.args.place c.args.v c.args.u net.known c.requires.need in
    let read = read_need t.needs c.args.place (a_need c.args.v c.args.u) c.requires.need in
    let amount : c.least_room-more.result ≡ min (room_at net.caps.now on c.args.v) (room_at net.caps.now on (t.count + c.args.u)) = rw (c.as_slice.ensures.value, many) at c.least_room-more.ensures in
    let some : 0 < c.least_room-more.result = omega (arith, c.if-more-gt0.true) in
    let link : IsOpen (network_of t).arcs on (record { arc = t.count + (t.count + c.args.place); forward = true }) (2 + c.args.v) (2 + c.args.u) = rw read.1 at (opens_link t on c.args.place read.0) in
    let climb = climbs_by t on c.args.v c.args.u c.args.v (t.count + (t.count + c.args.place)) (t.count + c.args.u) c.requires.far
    (goes_on_in t net.caps.now on c.args.v c.args.u c.least_room-more.result are known.0 known.1 amount some)
    link
    (goes_on_out t net.caps.now on c.args.v c.args.u c.least_room-more.result are known.0 known.1 amount some) in
    record {
      into = known.0;
      out = known.1;
      listed = read.0;
      amount = amount;
      some = some;
      long = omega (arith, c.requires.progress.flow.sized, arcs_sized t);
      climb = climb;
      fits = climb_fits (network_of t).nodes (arcs_in net) on c.requires.far.level (by_need c.args.v (t.count + (t.count + c.args.place)) (t.count + c.args.u)) climb c.args.progress.now.value c.args.progress.now.rounds c.requires.network c.requires.apart c.requires.progress c.least_room-more.result (need_carries t net.caps.now on c.args.v c.args.u c.least_room-more.result are known.0 known.1 amount some c.args.place read.0);
    }

pub add-requires-clause-within : goal.add-requires-clause-within
add-requires-clause-within c =
    let is = sent (goal.at.add-requires-clause-within c).Then-more-gt0 in
    omega (arith, is.long, is.into)

-- the lists stay as long
first_long : (c : After-add) → length c.add.new.progress.on.items ≡ length c.args.progress.now.on.items
first_long c = ap length c.add.ensures.on ∙ length-set c.args.progress.now.on.items c.args.v (get_or c.args.progress.now.on.items c.args.v 0 + c.least_room-more.result)

second_long : (c : After-add-then-more-gt0) → length c.add-then-more-gt0.new.progress.on.items ≡ length c.args.progress.now.on.items
second_long c =
    let on : List ℕ = c.args.progress.now.on.items in
    let over : ℕ = 2 * c.steps-count.result + c.args.place in
    ap length c.add-then-more-gt0.ensures.on
    ∙ length-set c.add.new.progress.on.items over (get_or c.add.new.progress.on.items over 0 + c.least_room-more.result)
    ∙ ap length c.add.ensures.on
    ∙ length-set on c.args.v (get_or on c.args.v 0 + c.least_room-more.result)

pub add-requires-then-more-gt0-clause-within : goal.add-requires-then-more-gt0-clause-within
add-requires-then-more-gt0-clause-within c =
    let is = sent (goal.at.add-requires-then-more-gt0-clause-within c).Then-more-gt0 in
    omega (arith, is.long, c.steps-count.ensures.count, is.listed, first_long (goal.at.add-requires-then-more-gt0-clause-within c).After-add)

pub add-requires-then-more-gt0-2-clause-within : goal.add-requires-then-more-gt0-2-clause-within
add-requires-then-more-gt0-2-clause-within c =
    let is = sent (goal.at.add-requires-then-more-gt0-2-clause-within c).Then-more-gt0 in
    omega (arith, is.long, is.out, c.steps-count.ensures.count, second_long (goal.at.add-requires-then-more-gt0-2-clause-within c).After-add-then-more-gt0)

-- the arc to the sink is another than those before
last_kept : (c : After-add-then-more-gt0) → IsSent c.args.net.now c.args.progress.now c.args.v c.args.u c.args.place c.least_room-more.result c.requires.far.level → get_or c.add-then-more-gt0.new.progress.on.items (c.steps-count.result + c.args.u) 0 ≡ get_or c.args.progress.now.on.items (c.steps-count.result + c.args.u) 0
last_kept c is =
    let on : List ℕ = c.args.progress.now.on.items in
    let over : ℕ = 2 * c.steps-count.result + c.args.place in
    ap (λ (xs : List ℕ). get_or xs (c.steps-count.result + c.args.u) 0) c.add-then-more-gt0.ensures.on
    ∙ get_or-set_other c.add.new.progress.on.items over (c.steps-count.result + c.args.u) (get_or c.add.new.progress.on.items over 0 + c.least_room-more.result) 0 (λ q. absurd (omega (arith, q, is.out, c.steps-count.ensures.count)))
    ∙ ap (λ (xs : List ℕ). get_or xs (c.steps-count.result + c.args.u) 0) c.add.ensures.on
    ∙ get_or-set_other on c.args.v (c.steps-count.result + c.args.u) (get_or on c.args.v 0 + c.least_room-more.result) 0 (λ q. absurd (omega (arith, q, is.into, c.steps-count.ensures.count)))

pub add-requires-then-more-gt0-2-clause-fits : goal.add-requires-then-more-gt0-2-clause-fits
add-requires-then-more-gt0-2-clause-fits c =
    let is = sent (goal.at.add-requires-then-more-gt0-2-clause-fits c).Then-more-gt0 in
    omega (arith, is.fits, c.requires.progress.limit (c.steps-count.result + c.args.u), last_kept (goal.at.add-requires-then-more-gt0-2-clause-fits c).After-add-then-more-gt0 is)

-- the round
round : (c : After-count_round) → IsSent c.args.net.now c.args.progress.now c.args.v c.args.u c.args.place c.least_room-more.result c.requires.far.level → AddsRound (arcs_in c.args.net.now) (by_need c.args.v ((terms_in c.args.net.now).count + ((terms_in c.args.net.now).count + c.args.place)) ((terms_in c.args.net.now).count + c.args.u)) c.args.progress.now c.count_round.new.progress
round c is =
    let net = c.args.net.now in
    let t : Terms = terms_in net in
    let on : List ℕ = c.args.progress.now.on.items in
    let are = own_capacities net.definition.now net.caps.now net.sized net.small in
    let many : c.steps-count.result ≡ t.count = c.steps-count.ensures.count in
    let over : 2 * c.steps-count.result + c.args.place ≡ t.count + (t.count + c.args.place) = omega (arith, many) in
    let push = need_push t net.caps.now on c.args.v c.args.u c.least_room-more.result are is.into is.out is.amount is.some c.args.place is.listed (omega (arith, is.fits)) in
    record {
      amount = c.least_room-more.result;
      push = record {
        some = push.some;
        carries = push.carries;
        most = push.most;
        adds = c.count_round.ensures.on ∙ c.add-then-more-gt0-2.ensures.on ∙ rw (c.add-then-more-gt0.ensures.on, c.add.ensures.on, over, many) refl;
      };
      value = omega (arith, c.count_round.ensures.value, c.add-then-more-gt0-2.ensures.value, c.add-then-more-gt0.ensures.value, c.add.ensures.value);
      rounds = omega (arith, c.count_round.ensures.rounds, c.add-then-more-gt0-2.ensures.rounds, c.add-then-more-gt0.ensures.rounds, c.add.ensures.rounds);
    }

after : (c : After-count_round) → IsSent c.args.net.now c.args.progress.now c.args.v c.args.u c.args.place c.least_room-more.result c.requires.far.level → IsProgress (network_of (terms_in c.args.net.now)).nodes (arcs_in c.args.net.now) c.count_round.new.progress.on.items c.count_round.new.progress.value c.count_round.new.progress.rounds × IsLevelled (arcs_in c.args.net.now) c.count_round.new.progress.on.items c.requires.far.level × (c.args.progress.now.value < c.count_round.new.progress.value) × (c.count_round.new.progress.value < 2 ^ 63)
after c is =
    let t : Terms = terms_in c.args.net.now in
    let low : c.requires.far.level 1 ≤ (network_of t).nodes = omega (arith, c.requires.far.sink, is.into) in
    climb_round (network_of t).nodes (network_of t).arcs c.args.progress.now c.count_round.new.progress c.requires.far.level _ c.requires.network c.requires.apart c.requires.progress c.requires.far.levelled low is.climb (round c is)

pub returns-then-more-gt0-clause-progress : goal.returns-then-more-gt0-clause-progress
returns-then-more-gt0-clause-progress c = (after (goal.at.returns-then-more-gt0-clause-progress c).After-count_round (sent (goal.at.returns-then-more-gt0-clause-progress c).Then-more-gt0)).0

pub returns-then-more-gt0-clause-small : goal.returns-then-more-gt0-clause-small
returns-then-more-gt0-clause-small c = (after (goal.at.returns-then-more-gt0-clause-small c).After-count_round (sent (goal.at.returns-then-more-gt0-clause-small c).Then-more-gt0)).3

pub returns-then-more-gt0-clause-far : goal.returns-then-more-gt0-clause-far
returns-then-more-gt0-clause-far c = record {
  level = c.requires.far.level;
  levelled = (after (goal.at.returns-then-more-gt0-clause-far c).After-count_round (sent (goal.at.returns-then-more-gt0-clause-far c).Then-more-gt0)).1;
  sink = c.requires.far.sink;
}
