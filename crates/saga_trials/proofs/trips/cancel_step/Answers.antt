use Rattle.saga_trials.proofs.Accepted.{accepted}
use Rattle.saga_trials.proofs.Noted.{noted_cancelled}
use Rattle.saga_trials.proofs.trips.cancel_step.Goals as goal

pub returns-clause-noted : goal.returns-clause-noted
returns-clause-noted c =
    noted_cancelled _ _ _ _ _
    (accepted c.take_undo.result c.in_ok-map_err.ensures.variant c.take_undo.ensures.ok)
    (accepted c.report_undo.result c.in_ok-map_err-2.ensures.variant c.report_undo.ensures.ok)
