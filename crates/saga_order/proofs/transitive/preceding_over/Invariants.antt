use Rattle.std.proofs.Common.{take}
use Rattle.saga_order.specs.TransitiveClosure.{ArePrecedingOver}
use Rattle.saga_order.proofs.transitive.preceding_over.Given as goal

abbrev pub invariant-loop-on : goal.invariant-loop-on
invariant-loop-on l = ArePrecedingOver (take l.on-index l.needed) l.closure l.preceding
