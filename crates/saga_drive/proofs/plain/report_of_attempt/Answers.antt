use Rattle.saga_drive.proofs.PlainLemmas.{attempt-line}
use Rattle.saga_drive.proofs.plain.report_of_attempt.Goals as goal

pub returns : goal.returns
returns c =
    let number = c.in_ok-number in
    let told = c.in_ok-outcome in
    attempt-line c.args.line.now number.rest.now c.in_ok-after.field-0.now told.rest.now number.number told.outcome told.saga told.step c.in_ok-task.task
    number.ensures.text c.in_ok-after.ensures told.ensures.text c.in_ok-task.ensures number.ensures.small told.ensures.saga told.ensures.step
