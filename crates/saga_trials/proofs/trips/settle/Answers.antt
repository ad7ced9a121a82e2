use Rattle.saga_trials.proofs.Accepted.{accepted, handed_on}
use Rattle.saga_trials.proofs.Noted.{noted_planned}
use Rattle.saga_trials.proofs.trips.settle.Goals as goal

pub returns : goal.returns
returns c =
    handed_on c.adopt.result c.map_err-2.result c.map_err-2.ensures.variant
    (noted_planned c.args.book.now c.take_plan.new.self c.adopt.new.self c.args.trip _
    (accepted c.take_plan.result c.in_ok-case.ensures.variant c.take_plan.ensures.ok))
    c.adopt.ensures.ok
