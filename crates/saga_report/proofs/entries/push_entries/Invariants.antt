use Rattle.std.proofs.Common.{◌≡◌, ◌++◌, map, take}
use Rattle.saga_report.specs.Opened.{opened_sagas}
use Rattle.saga_report.specs.Reports.{entry}
use Rattle.saga_report.proofs.entries.push_entries.Given as goal

abbrev pub invariant-loop-event : goal.invariant-loop-event
invariant-loop-event l =
    l.entries.items ≡ l.initial.entries.items ++ map (entry l.place) (opened_sagas (take l.event-index l.events))
