-- The network of a case: node 0 is the source, 1 the sink, and 2 + s the step s.
use Rattle.std.specs.Prelude.{ℕ, List, [], ◌∷◌, ◌++◌, ◌+◌, map, zero, suc}
use Rattle.saga_def.specs.declared.steps.Need.{Need}
use Rattle.saga_def.specs.declared.steps.Price.{Price}
use Rattle.saga_def.specs.declared.steps.Price.TheVariants as price
use Rattle.saga_case.specs.Terms.{Terms}
use Rattle.saga_flow.specs.declared.nets.Arc.{Arc}
use Rattle.saga_flow.specs.declared.nets.Cap.{Cap}
use Rattle.saga_flow.specs.declared.nets.Cap.TheVariants as cap
use Rattle.saga_flow.specs.Network.{Network}

-- the node of a step
abbrev pub node_of : ℕ → ℕ
node_of s = 2 + s

-- a cost as a capacity: never is unbounded
abbrev pub cap_of : Price → Cap
cap_of (price.Of amount) = cap.Of amount
cap_of price.Never = cap.Unbounded

-- from the source to a step, with the cost to drop the step as capacity
abbrev pub leave_arc : Terms → ℕ → Arc
leave_arc t s = record { from = 0; to = node_of s; cap = cap_of (t.leave s) }

-- from a step to the sink, with the cost to keep the step as capacity
abbrev pub stand_arc : Terms → ℕ → Arc
stand_arc t s = record { from = node_of s; to = 1; cap = cap_of (t.stand s) }

-- from a step to a step that it needs, unbounded
abbrev pub link_arc : Need → Arc
link_arc n = record { from = node_of n.step; to = node_of n.on; cap = cap.Unbounded }

-- an arc for each number below a limit, in order
unfoldable pub arcs_below : ℕ → (ℕ → Arc) → List Arc
arcs_below zero arc = []
arcs_below (suc n) arc = arcs_below n arc ++ arc n ∷ []

-- source, sink and steps; an arc from the source to each step, one from each step to the sink, and one for each need
abbrev pub network_of : Terms → Network
network_of t = record {
  nodes = t.count + 2;
  arcs = arcs_below t.count (leave_arc t) ++ (arcs_below t.count (stand_arc t) ++ map link_arc t.needs);
}
