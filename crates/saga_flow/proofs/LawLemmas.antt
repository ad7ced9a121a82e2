-- Amounts have one value, and so have the greatest flows.
use Rattle.std.proofs.Common.{◌≤◌, List, arith}
use Rattle.saga_flow.specs.Laws.{HasOneValue, HasOneGreatest}
use Rattle.saga_flow.specs.declared.nets.Arc.{Arc}

pub has_one_value : (arcs : List Arc) → HasOneValue arcs
has_one_value arcs on v w p q = omega arith

pub has_one_greatest : (arcs : List Arc) → HasOneGreatest arcs
has_one_greatest arcs on other v w p q =
    let below : w ≤ v = p.greatest other w q.flow q.worth in
    let above : v ≤ w = q.greatest on v p.flow p.worth in
    omega (arith, below, above)
