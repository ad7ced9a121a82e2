use Rattle.saga_work.proofs.RunLemmas.{first_opened}
use Rattle.saga_work.proofs.opening.opened.Goals as goal

pub returns-clause-seats : goal.returns-clause-seats
returns-clause-seats g c =
    first_opened c.args.workers c.args.shards c.args.asks.now c.in-Ok.seats.items c.open_all.new.seat c.requires.workers.0 c.in-Ok.ensures.seats
    c.in_ok-open_all.ensures.all c.in_ok-open_all.ensures.only
