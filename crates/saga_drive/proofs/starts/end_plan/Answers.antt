use Rattle.saga_drive.proofs.PlanLemmas.{not_refused}
use Rattle.saga_drive.proofs.starts.end_plan.Goals as goal

pub unreachable-requires : goal.unreachable-requires
unreachable-requires c =
    not_refused c.args.book.now c.args.saga c.args.verdict.case c.in-Err.field-0.why c.requires.planned c.in-Err.ensures.why
