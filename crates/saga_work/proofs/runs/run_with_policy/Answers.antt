use Rattle.std.proofs.Common.{ap, subst}
use Rattle.saga_desk.specs.Desk.{Desk}
use Rattle.saga_desk.specs.Finish.{AreOfShards}
use Rattle.saga_work.specs.Asked.{AreNumbered}
use Rattle.saga_work.proofs.FaultLemmas.{finishing_fault}
use Rattle.saga_work.proofs.RunLemmas.{run_opened}
use Rattle.saga_work.proofs.runs.run_with_policy.Goals as goal

pub returns-clause-opened : goal.returns-clause-opened
returns-clause-opened g c =
    let books = c.in-Ok-finish.books.items in
    run_opened c.args.shards c.args.asks.now c.args.shelf.now
    books c.in_ok-desk.seats.items c.in-Ok.back.items c.requires.shards.0 c.in_ok-desk.ensures.seats c.in-Ok.ensures.gained
    (subst (λ (z : Desk). AreOfShards z.shelf z.shards books) c.in_ok-desk.ensures.desk c.in-Ok-finish.ensures.shards)
    (subst AreNumbered c.as_slice.ensures.value c.are_numbered.ensures) c.in-Ok-finish.ensures.agree

pub returns-in-Err-clause-why : goal.returns-in-Err-clause-why
returns-in-Err-clause-why g c =
    rw c.finish_fault.ensures (finishing_fault c.args.shards c.args.shelf.now c.args.asks.now c.in_ok-desk.desk c.args.workers c.in-Ok.back.items c.in-Err.refused
    (ap (λ (d : Desk). d.seats) c.in_ok-desk.ensures.desk) (c.in-Ok.ensures.numbers c.args.workers c.in_ok-desk.ensures.numbers)
    c.in_ok-desk.ensures.known c.in-Err.ensures.why)
