use Rattle.std.proofs.Common.{take}
use Rattle.saga_fleet.specs.Fleet.{nothing}
use Rattle.saga_fleet.specs.Records.{AreWithin, IsRecordFrom, log_after}
use Rattle.saga_fleet.proofs.Records.{AreOf}
use Rattle.saga_fleet.proofs.watch.audit_record.Given as goal

abbrev pub invariant-loop-position : goal.invariant-loop-position
invariant-loop-position l =
    AreOf l.watch.log l.watch.digests.items l.watch.tallies.items (log_after l.synchronous nothing (take l.position l.events))
    × IsRecordFrom l.synchronous nothing (take l.position l.events)
    × AreWithin l.position l.watch.log l.watch.digests.items l.watch.tallies.items
