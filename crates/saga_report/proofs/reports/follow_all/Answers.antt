use Rattle.saga_report.proofs.FollowLemmas.{followed_more}
use Rattle.saga_report.proofs.reports.follow_all.Goals as goal

pub loop-events-preserved : goal.loop-events-preserved
loop-events-preserved c =
    rw c.in_ok-push.ensures.items (followed_more c.loop-events.books.items c.args.histories.now c.loop-events.events-index c.in_ok-book.book c.events-item.result c.loop-events-test.true c.events-item.is c.loop-events.invariant c.in_ok-book.ensures)
