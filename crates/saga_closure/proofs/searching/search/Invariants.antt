use Rattle.std.proofs.Common.{◌≡◌, ◌-◌, length}
use Rattle.saga_closure.specs.Layers.{IsSearch}
use Rattle.saga_closure.specs.Nets.{terms_in}
use Rattle.saga_closure.proofs.searching.search.Given as goal

abbrev pub invariant-loop-first : goal.invariant-loop-first
invariant-loop-first l = record {
  sized : length l.next.items ≡ l.rows.width;
  on_way : IsSearch (terms_in l.residual.net.now) l.residual.on.now l.found.level.items l.found.labelled.items l.found.order.items l.first (length l.found.order.items) l.first l.depth l.depth;
}

abbrev pub decreases-loop-first : goal.decreases-loop-first
decreases-loop-first l = (terms_in l.residual.net.now).count - l.first
