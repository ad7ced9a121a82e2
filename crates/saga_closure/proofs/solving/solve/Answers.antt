-- What is found over the definition's lists is found of the case.
use Rattle.std.proofs.Common.{◌≡◌, length, ap, sym}
use Rattle.saga_def.specs.Contents.{Contents}
use Rattle.saga_case.specs.Terms.{terms_of}
use Rattle.saga_closure.specs.Capacities.{AreCapacities}
use Rattle.saga_closure.proofs.NetLemmas.{caps_small, same_chain, same_largest, same_net}
use Rattle.saga_closure.proofs.RoundLemmas.{case_net}
use Rattle.saga_closure.proofs.solving.solve.Goals as goal
use Rattle.saga_closure.proofs.solving.solve.Goals.{After-as_slice}

caps_are : (c : After-as_slice) → AreCapacities (terms_of c.args.case.now) c.as_slice.result.now
caps_are c = rw c.as_slice.ensures.value c.in_ok-caps.ensures

count_is : (c : After-as_slice) → length c.args.case.now.definition.steps ≡ length c.definition.result.now.steps
count_is c = ap (λ (d : Contents). length d.steps) (sym c.definition.ensures.value)

needs_is : (c : After-as_slice) → c.args.case.now.definition.needs ≡ c.definition.result.now.needs
needs_is c = ap (λ (d : Contents). d.needs) (sym c.definition.ensures.value)

pub invariant_of-net : goal.invariant_of-net
invariant_of-net c =
    let are = caps_are (goal.at.invariant_of-net c).After-as_slice in
    let sound = c.definition.ensures.at_rest.sound in
    let is = c.definition.ensures.value in
    record {
      few = rw is sound.few_steps;
      known = rw is sound.known;
      single = rw is sound.single;
      acyclic = rw is sound.acyclic;
      sized = rw is are.sized;
      small = caps_small (terms_of c.args.case.now) c.as_slice.result.now are;
    }

pub returns-in-Some : goal.returns-in-Some
returns-in-Some c =
    let at = (goal.at.returns-in-Some c).After-as_slice in
    same_chain (terms_of c.args.case.now) c.definition.result.now c.as_slice.result.now (caps_are at) (count_is at) (needs_is at) c.in-Some.chain.items (rw c.in-Some.is at c.in_ok-chain.ensures.some)

pub largest-requires-clause-network : goal.largest-requires-clause-network
largest-requires-clause-network c =
    let at = (goal.at.largest-requires-clause-network c).After-as_slice in
    same_net (terms_of c.args.case.now) c.definition.result.now c.as_slice.result.now (caps_are at) (count_is at) (needs_is at) (case_net c.args.case.now c.definition.ensures.at_rest)

pub returns : goal.returns
returns c =
    let at = (goal.at.returns c).After-as_slice in
    same_largest (terms_of c.args.case.now) c.definition.result.now c.as_slice.result.now (caps_are at) (count_is at) (needs_is at) _ c.in_ok-largest.ensures
