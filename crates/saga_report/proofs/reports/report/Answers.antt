use Rattle.std.proofs.Common.{map, string_bytes}
use Rattle.saga_report.proofs.ReportLemmas.{its_report}
use Rattle.saga_report.proofs.reports.report.Goals as goal

pub returns : goal.returns
returns c = its_report c.args.shelf.now (map (λ h. h.now) c.args.histories.now) (string_bytes c.in_ok-report_counted.field-0.text) c.in_ok-report_counted.field-0.stuck c.in_ok-report_counted.ensures
