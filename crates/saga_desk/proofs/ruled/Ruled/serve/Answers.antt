use Rattle.saga_desk.specs.Signs.{Shows}
use Rattle.saga_desk.proofs.RoundLemmas.{served_shows, told_served}
use Rattle.saga_desk.proofs.ruled.Ruled.serve.Goals as goal

pub invariant_of-self-2 : goal.invariant_of-self-2
invariant_of-self-2 g c =
    let shows : Shows c.show.new.shown c.serve.new.self =
    rw c.show.ensures (rw c.shown_by.ensures (served_shows c.self.inside.shard c.serve.new.self c.args.seat.now c.serve.new.seat c.in_ok-claim.claim c.in_ok-claim.ensures.ok)) in
    (told_served g.P.Policy.may g.P.Policy.may_abort c.self.inside.shard c.serve.new.self c.args.seat.now c.serve.new.seat c.in_ok-claim.claim c.in_ok-claim.ensures.ok c.self.invariant.0, shows)

pub returns-clause-ok : goal.returns-clause-ok
returns-clause-ok g c = rw (← c.self.view_is) c.in_ok-claim.ensures.ok
