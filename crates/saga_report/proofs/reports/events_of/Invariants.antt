use Rattle.std.proofs.Common.{◌≡◌, ◌≤◌, ◌*◌, length, map, take, sum_by}
use Rattle.saga_report.proofs.reports.events_of.Given as goal

abbrev pub invariant-loop-events : goal.invariant-loop-events
invariant-loop-events l =
    (l.total ≡ sum_by length (map (λ h. h.now) (take l.events-index l.histories)))
    × (l.total ≤ l.events-index * 18446744073709551615)
