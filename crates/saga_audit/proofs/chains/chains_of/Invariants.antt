use Rattle.std.proofs.Common.{◌≤◌, length}
use Rattle.std.specs.BTreeMap.{get}
use Rattle.std.specs.Ordering.{nat_cmp}
use Rattle.saga_audit.specs.Chains.{AreChains}
use Rattle.saga_audit.specs.Groups.{is_in}
use Rattle.saga_audit.proofs.chains.chains_of.Given as goal

abbrev pub invariant-loop-place : goal.invariant-loop-place
invariant-loop-place l =
    AreChains (is_in l.workers l.group) l.events l.links.items (get nat_cmp l.heads) l.place × (l.place ≤ length l.events)

abbrev pub decreases-loop-place : goal.decreases-loop-place
decreases-loop-place l = l.place
