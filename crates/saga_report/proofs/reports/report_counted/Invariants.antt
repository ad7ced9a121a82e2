use Rattle.std.proofs.Common.{◌≡◌, ◌≤◌, flat_map, take, map, string_bytes}
use Rattle.std.specs.Prelude.{count_by}
use Rattle.saga_report.specs.Reports.{text_at, phase_at, is_ended, is_stuck}
use Rattle.saga_report.proofs.reports.report_counted.Given as goal

abbrev pub invariant-loop-entry : goal.invariant-loop-entry
invariant-loop-entry l =
    (string_bytes l.text ≡ flat_map (text_at l.shelf (map (λ h. h.now) l.histories)) (take l.entry-index l.entries))
    × (l.ended ≡ count_by (λ e. is_ended (phase_at l.shelf (map (λ h. h.now) l.histories) e)) (take l.entry-index l.entries))
    × (l.stuck ≡ count_by (λ e. is_stuck (phase_at l.shelf (map (λ h. h.now) l.histories) e)) (take l.entry-index l.entries))
    × (l.ended ≤ l.entry-index) × (l.stuck ≤ l.entry-index)
