use Rattle.saga_order.proofs.TopologicalLemmas.{AreAllVisited}
use Rattle.saga_order.specs.Shape.{shape_of}
use Rattle.saga_order.proofs.topological.topological_order.Given as goal

abbrev pub invariant-loop-step : goal.invariant-loop-step
invariant-loop-step l = AreAllVisited (shape_of l.definition) l.visited.items l.order.items l.step
