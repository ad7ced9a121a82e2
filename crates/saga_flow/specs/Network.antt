-- Networks: the number of nodes, and the arcs. Node 0 is the source, node 1 the sink.
use Rattle.std.specs.Prelude.{ℕ, ◌^◌, ◌<◌, Bool, ◌&&◌, List, IsTrue, nat_lt, sum_by}
use Rattle.std.specs.List.{list_all}
use Rattle.saga_flow.specs.declared.nets.Arc.{Arc}
use Rattle.saga_flow.specs.declared.nets.Cap.{Cap}
use Rattle.saga_flow.specs.declared.nets.Cap.TheVariants.{Of, Unbounded}

-- the number of nodes, which are the numbers below it, and the arcs in order
pub record Network : Type 0 where
  pub nodes : ℕ
  pub arcs : List Arc

-- a bounded capacity; 0 for an unbounded one
abbrev pub bound_of : Cap → ℕ
bound_of (Of c) = c
bound_of Unbounded = 0

-- the sum of all bounded capacities
abbrev pub bound_sum : List Arc → ℕ
bound_sum arcs = sum_by (λ (a : Arc). bound_of a.cap) arcs

-- both ends of each arc are nodes
abbrev pub ends_within : ℕ → List Arc → Bool
ends_within nodes arcs = list_all (λ (a : Arc). nat_lt a.from nodes && nat_lt a.to nodes) arcs

-- the properties of every network
pub record IsNetwork (net : Network) : Type 0 where
  pub two : 1 < net.nodes
  pub ends : IsTrue (ends_within net.nodes net.arcs)
  pub bounded : bound_sum net.arcs < 2 ^ 63
