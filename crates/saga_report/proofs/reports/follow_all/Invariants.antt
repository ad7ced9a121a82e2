use Rattle.std.proofs.Common.{map, take}
use Rattle.saga_report.specs.Tells.{AreFollowed}
use Rattle.saga_report.proofs.reports.follow_all.Given as goal

abbrev pub invariant-loop-events : goal.invariant-loop-events
invariant-loop-events l = AreFollowed l.books.items (map (λ h. h.now) (take l.events-index l.histories))
