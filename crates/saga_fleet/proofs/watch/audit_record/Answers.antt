use Rattle.std.proofs.Common.{◌+◌, List, get_or, subst, take, arith, rules}
use Rattle.std.proofs.lemmas.Bool.{false≢true}
use Rattle.std.proofs.lemmas.List.{take_all}
use Rattle.saga_fleet.specs.declared.events.Event.{Event}
use Rattle.saga_fleet.specs.declared.events.Event.TheVariants.{TookOver}
use Rattle.saga_fleet.specs.Fleet.{nothing}
use Rattle.saga_fleet.specs.Records.{IsFirstFault, IsRecordFrom, digests_after, log_after, now_after, tallies_after}
use Rattle.saga_fleet.proofs.Counts.{next, same}
use Rattle.saga_fleet.proofs.Records.{AreOf, are_same, counted, fault, goes_on, record_front, record_holds, record_holds_all}
use Rattle.saga_fleet.proofs.watch.audit_record.Goals as goal

-- the first event that is not allowed
found : (c : goal.After-drop-watch-in-Some) → IsFirstFault c.args.synchronous c.args.events.now c.loop-position.position c.in-Some.reason
found c =
    fault c.args.synchronous c.args.events.now c.loop-position.position c.loop-position.watch.log c.loop-position.watch.digests.items c.loop-position.watch.tallies.items
    (omega (arith, c.loop-position-test.true, c.loop-position.auto.position-end)) c.loop-position.invariant.0 c.loop-position.invariant.1 c.in-Some.reason c.in-Some.ensures

pub returns-in-Some-clause-yes : goal.returns-in-Some-clause-yes
returns-in-Some-clause-yes c = (
  λ no_. absurd (false≢true no_),
  λ r. absurd ((found c).denied (record_front c.args.synchronous nothing (c.loop-position.position + 1) c.args.events.now r)),
)

pub returns-in-Some-clause-answer : goal.returns-in-Some-clause-answer
returns-in-Some-clause-answer c = found c

pub loop-position-preserved : goal.loop-position-preserved
loop-position-preserved c =
    let w = c.loop-position.watch in
    let i = c.loop-position.position in
    let e = get_or c.args.events.now i (TookOver 0 0 0) in
    let on = goes_on c.args.synchronous c.args.events.now i w.log w.digests.items w.tallies.items
    (omega (arith, c.loop-position-test.true, c.loop-position.auto.position-end)) c.loop-position.invariant.0 c.loop-position.invariant.1 c.in_default.ensures in (
      are_same (now_after w.log e) c.see.new.self.log (digests_after w.digests.items e) c.see.new.self.digests.items
          (tallies_after w.log w.digests.items w.tallies.items e) c.see.new.self.tallies.items (log_after c.args.synchronous nothing (take (i + 1) c.args.events.now))
          c.in_ok-see.ensures.now c.in_ok-see.ensures.digests c.in_ok-see.ensures.tallies on.0,
      on.1,
      same (i + 1) (now_after w.log e) c.see.new.self.log (digests_after w.digests.items e) c.see.new.self.digests.items
          (tallies_after w.log w.digests.items w.tallies.items e) c.see.new.self.tallies.items
          c.in_ok-see.ensures.now c.in_ok-see.ensures.digests c.in_ok-see.ensures.tallies
          (next c.args.synchronous i w.log w.digests.items w.tallies.items e c.loop-position.invariant.2 c.in_default.ensures),
    )

-- after the last event
all_seen : (c : goal.After-drop-watch-3) → IsRecordFrom c.args.synchronous nothing c.args.events.now
all_seen c =
    subst (IsRecordFrom c.args.synchronous nothing)
    (take_all c.loop-position.position c.args.events.now (omega (arith, c.loop-position-test.false, c.loop-position.auto.position-end)))
    c.loop-position.invariant.1

-- so the numbers are those of the whole record
all_counted : (c : goal.After-drop-watch-3)
    → AreOf c.loop-position.watch.log c.loop-position.watch.digests.items c.loop-position.watch.tallies.items (log_after c.args.synchronous nothing c.args.events.now)
all_counted c =
    subst (λ (es : List Event). AreOf c.loop-position.watch.log c.loop-position.watch.digests.items c.loop-position.watch.tallies.items (log_after c.args.synchronous nothing es))
    (take_all c.loop-position.position c.args.events.now (omega (arith, c.loop-position-test.false, c.loop-position.auto.position-end)))
    c.loop-position.invariant.0

pub returns-clause-answer : goal.returns-clause-answer
returns-clause-answer c = (
  all_seen c,
  counted c.args.synchronous c.args.events.now c.loop-position.watch.log c.loop-position.watch.digests.items c.loop-position.watch.tallies.items _ _ _ _
      (all_counted c) (search rules) (search rules) (search rules) (search rules),
)

pub returns-clause-told : goal.returns-clause-told
returns-clause-told c y = record_holds c.args.synchronous c.args.events.now (all_seen c)

pub returns-clause-told_all : goal.returns-clause-told_all
returns-clause-told_all c y sure = record_holds_all c.args.synchronous c.args.events.now (all_seen c) sure
