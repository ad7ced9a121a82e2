use Rattle.std.proofs.Common.{refl}
use Rattle.saga_drive.proofs.PlainLemmas.{report-line}
use Rattle.saga_drive.proofs.plain.report.Goals as goal

pub returns : goal.returns
returns c =
    let told = c.in_ok-outcome in
    report-line c.args.line.now c.in_ok-after.field-0.now told.rest.now told.outcome told.saga told.step
    c.in_ok-after.ensures told.ensures.text (c.if-not-is_same.ensures.0 refl) told.ensures.saga told.ensures.step
