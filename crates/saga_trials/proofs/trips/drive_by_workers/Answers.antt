use Rattle.saga_desk.specs.Finish.{HeadlineHolds}
use Rattle.saga_work.specs.Asked.{AreAnswered}
use Rattle.saga_trials.specs.Seats.{MayAnswer}
use Rattle.saga_trials.proofs.Accepted.{given}
use Rattle.saga_trials.proofs.Seated.{seated}
use Rattle.saga_trials.proofs.trips.drive_by_workers.Goals as goal

pub returns-2-clause-seats : goal.returns-2-clause-seats
returns-2-clause-seats g c =
    seated c.args.agency.now c.in_ok-run.run'.books.items
    (given _ (λ run. AreAnswered (MayAnswer c.args.agency.now) (λ job. ⊥) run.books.items) _ c.run_all.result c.in_ok-run.run'
    c.in_ok-run.ensures.cases c.in_ok-run.ensures.variant c.run_all.ensures.answered)

pub returns-2-clause-headline : goal.returns-2-clause-headline
returns-2-clause-headline g c =
    given _ (λ run. HeadlineHolds c.args.shelf.now run.books.items) _ c.run_all.result c.in_ok-run.run'
    c.in_ok-run.ensures.cases c.in_ok-run.ensures.variant c.run_all.ensures.headline
