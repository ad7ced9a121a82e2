use Rattle.std.proofs.Common.{◌∙◌, ap, subst}
use Rattle.saga_log.specs.Back.{IsReadBack}
use Rattle.saga_log.specs.Logs.{event_line}
use Rattle.saga_drive.specs.Replies.{event_front}
use Rattle.saga_drive.proofs.ReportLemmas.{reported}
use Rattle.saga_drive.proofs.reports.end.Goals as goal

pub returns-clause-ok : goal.returns-clause-ok
returns-clause-ok c =
    let held = c.in_ok-happening.ensures in
    let event = c.of_step.ensures.value in
    reported c.args.book.now c.report.new.self c.args.saga c.args.step c.args.kind c.args.meant c.args.outcome c.in-Ok.t _ c.told.result
    c.in-Ok.ensures.ok.0 c.in-Ok.ensures.only c.in-Ok-report.ensures.ok c.requires
    (held.text ∙ ap event_front event) (c.told.ensures.lines ∙ (held.lines ∙ ap event_line event)) (subst IsReadBack event held.back) c.told.ensures.text
