use Rattle.std.proofs.Common.{◌≡◌, map, take}
use Rattle.saga_report.specs.Reports.{entries_from}
use Rattle.saga_report.proofs.entries.entries_of.Given as goal

abbrev pub invariant-loop-place : goal.invariant-loop-place
invariant-loop-place l = l.entries.items ≡ entries_from 0 (map (λ h. h.now) (take l.place l.histories))
