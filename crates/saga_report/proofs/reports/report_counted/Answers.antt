use Rattle.std.proofs.Common.{length, refl}
use Rattle.saga_report.proofs.ReportLemmas.{counted_report_is}
use Rattle.saga_report.proofs.reports.report_counted.Goals as goal

pub returns : goal.returns
returns c =
    let so_far = c.loop-entry.invariant in
    counted_report_is c.args.shelf.now _ c.as_slice-entries.result.now c.loop-entry.entry-index _ _ (length c.as_slice-entries.result.now) c.loop-entry.ended c.loop-entry.stuck c.events_of.result
    (rw c.as_slice-entries.ensures.value c.in_ok-ordered.ensures) c.loop-entry-test.false so_far.0 so_far.1 so_far.2 refl c.events_of.ensures c.in_ok-push_total.ensures
