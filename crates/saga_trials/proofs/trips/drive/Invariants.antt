use Rattle.std.proofs.Common.{All}
use Rattle.saga_trials.specs.Entries.{AreNoted}
use Rattle.saga_trials.specs.Seats.{EntryHasSeat}
use Rattle.saga_trials.proofs.trips.drive.Given as goal

abbrev pub invariant-loop : goal.invariant-loop
invariant-loop l = AreNoted l.fn.book l.book l.entries.items × All (EntryHasSeat l.agency) l.entries.items
