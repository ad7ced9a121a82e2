use Rattle.std.proofs.Common.{◌≡◌, ◌+◌, ◌^◌, take}
use Rattle.saga_flow.specs.Network.{bound_sum}
use Rattle.saga_flow.proofs.nets.has_small_sum.Given as goal

abbrev pub invariant-loop-arc : goal.invariant-loop-arc
invariant-loop-arc l = l.room + bound_sum (take l.arc-index l.arcs) + 1 ≡ 2 ^ 63
