-- The empty flow is reached in no round,
use Rattle.std.proofs.Common.{◌≡◌, ◌+◌, ◌*◌, length, replicate, arith, rules}
use Rattle.saga_case.specs.Terms.{Terms}
use Rattle.saga_flow.proofs.FlowLemmas.{progress_start}
use Rattle.saga_closure.specs.CaseNet.{network_of}
use Rattle.saga_closure.specs.Nets.{terms_in}
use Rattle.saga_closure.proofs.ArcLemmas.{arcs_sized}
use Rattle.saga_closure.proofs.NetLemmas.{own_capacities}
use Rattle.saga_closure.proofs.ReachLemmas.{reach_begun}
use Rattle.saga_closure.proofs.VisitLemmas.{search_start}
use Rattle.saga_closure.proofs.flows.largest.Goals as goal

pub send_straight-requires-clause-progress : goal.send_straight-requires-clause-progress
send_straight-requires-clause-progress c =
    let t : Terms = terms_in c.args.net.now in
    let is : c.in_ok-vec.field-0.items ≡ replicate (2 * c.steps.result + c.needs.result) 0 = search rules in
    let many : 2 * c.steps.result + c.needs.result ≡ length (network_of t).arcs = omega (arith, c.steps.ensures.count, c.needs.ensures.count, arcs_sized t) in
    rw (is, many) (progress_start (network_of t).nodes (network_of t).arcs (omega arith))

-- and where the source can send no more to any step, a search ends where it begins
pub flow_of-requires-clause-reach : goal.flow_of-requires-clause-reach
flow_of-requires-clause-reach c =
    let net = c.args.net.now in
    let found = c.in_ok-found.found in
    let none : length found.order.items ≡ 0 = search rules in
    let begun = search_start (terms_in net) net.caps.now c.as_slice.result.now found.level.items found.labelled.items found.order.items (own_capacities net.definition.now net.caps.now net.sized net.small) net.few c.in_ok-found.ensures in
    rw (← c.as_slice.ensures.value) (reach_begun (terms_in net) c.as_slice.result.now found none begun)
