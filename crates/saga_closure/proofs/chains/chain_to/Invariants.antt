use Rattle.std.proofs.Common.{◌<◌, ◌≤◌, get_or}
use Rattle.saga_closure.specs.Nets.{terms_in}
use Rattle.saga_closure.proofs.ChainLemmas.{IsBackChain}
use Rattle.saga_closure.proofs.chains.chain_to.Given as goal

abbrev pub invariant-loop-goal : goal.invariant-loop-goal
invariant-loop-goal l = record {
  inside : l.v < (terms_in l.residual.net.now).count;
  low : get_or l.found.level.items l.v 0 ≤ l.fn.goal.depth;
  back : IsBackChain (terms_in l.residual.net.now) l.fn.goal.step l.v l.chain.items;
}

abbrev pub decreases-loop-goal : goal.decreases-loop-goal
decreases-loop-goal l = get_or l.found.level.items l.v 0
