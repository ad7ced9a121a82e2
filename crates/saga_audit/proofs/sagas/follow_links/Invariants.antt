use Rattle.saga_audit.specs.Chains.{AreLinks}
use Rattle.saga_audit.specs.Sagas.{IsFollowed, links_left}
use Rattle.saga_audit.proofs.sagas.follow_links.Given as goal

abbrev pub invariant-loop-to : goal.invariant-loop-to
invariant-loop-to l = AreLinks l.events l.links × IsFollowed l.shelf l.row l.events l.links l.saga l.to

abbrev pub decreases-loop-to : goal.decreases-loop-to
decreases-loop-to l = links_left l.to
