use Rattle.std.proofs.Common.{take}
use Rattle.saga_order.proofs.TransitiveLemmas.{IsClosureOf}
use Rattle.saga_order.specs.Shape.{shape_of}
use Rattle.saga_order.proofs.transitive.transitive_closure.Given as goal

abbrev pub invariant-loop-step : goal.invariant-loop-step
invariant-loop-step l = IsClosureOf (shape_of l.definition) (take l.step-index l.order) l.closure.items
