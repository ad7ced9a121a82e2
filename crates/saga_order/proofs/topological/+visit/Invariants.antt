use Rattle.std.proofs.Common.{take}
use Rattle.std.specs.Prelude.{count_by, not}
use Rattle.saga_order.proofs.TopologicalLemmas.{HasPassed}
use Rattle.saga_order.specs.Shape.{shape_of}
use Rattle.saga_order.proofs.topological.+visit.Given as goal

abbrev pub decreases-visit : goal.decreases-visit
decreases-visit l = count_by not l.visited.now

abbrev pub invariant-loop-on : goal.invariant-loop-on
invariant-loop-on l = HasPassed (shape_of l.definition) l.initial.visited l.initial.order.items (take l.on-index l.on-items) l.visited l.order.items
