use Rattle.std.proofs.Common.{subst}
use Rattle.saga_core.specs.Refusals.{IsReported}
use Rattle.saga_history.specs.declared.tasks.Kind.TheVariants.{Run}
use Rattle.saga_history.specs.declared.tasks.Outcome.{Outcome}
use Rattle.saga_trials.proofs.Accepted.{accepted}
use Rattle.saga_trials.proofs.Noted.{noted_booked, noted_unbooked}
use Rattle.saga_trials.proofs.trips.book_step.Goals as goal

pub returns-in-Done-clause-noted : goal.returns-in-Done-clause-noted
returns-in-Done-clause-noted c =
    noted_booked _ _ _ _ _
    (accepted c.take_run.result c.in_ok-map_err.ensures.variant c.take_run.ensures.ok)
    (subst (λ (o : Outcome). IsReported Run c.take_run.new.self c.report_run.new.self c.args.trip c.args.step o)
    c.in-Done.is
    (accepted c.report_run.result c.in_ok-map_err-2.ensures.variant c.report_run.ensures.ok))

pub returns-in-Void-clause-noted : goal.returns-in-Void-clause-noted
returns-in-Void-clause-noted c =
    noted_unbooked _ _ _ _ _ _ c.in-Void.is
    (accepted c.take_run.result c.in_ok-map_err.ensures.variant c.take_run.ensures.ok)
    (accepted c.report_run.result c.in_ok-map_err-2.ensures.variant c.report_run.ensures.ok)
