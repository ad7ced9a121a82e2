-- A round along a climbing path of a case's network.
use Rattle.std.proofs.Common.{◌+◌, length, refl, arith}
use Rattle.saga_case.specs.Situation.{Situation, IsAtRest}
use Rattle.saga_case.specs.Terms.{terms_of}
use Rattle.saga_flow.specs.Network.{IsNetwork}
use Rattle.saga_closure.specs.CaseNet.{network_of}
use Rattle.saga_closure.proofs.PriceLemmas.{case_bounded, case_ends}

pub case_net : (c : Situation) → IsAtRest c → IsNetwork (record { nodes = (network_of (terms_of c)).nodes; arcs = (network_of (terms_of c)).arcs })
case_net c rest = record {
  two = omega arith;
  ends = case_ends c (length c.definition.steps + 2) refl rest;
  bounded = case_bounded c rest;
}
