-- Of the capacities only those without a bound are kept, and a search of empty amounts finds a chain, or shows that
-- there is none.
use Rattle.std.proofs.Common.{ℕ, ◌≡◌, ◌+◌, ◌*◌, ◌∙◌, true, List, [], length, get_or, map, replicate, refl, arith, rules}
use Rattle.saga_case.specs.Terms.{Terms}
use Rattle.saga_closure.specs.Capacities.{endless, terms_by}
use Rattle.saga_closure.specs.Layers.{IsReach, IsAtGoal, GoesOut}
use Rattle.saga_closure.proofs.ArcLemmas.{arcs_sized}
use Rattle.saga_closure.proofs.ChainLemmas.{only_sized, only_small, chain_right, apart_from_search, apart_from_start, zeros_empty}
use Rattle.saga_closure.proofs.ReachLemmas.{no_path}
use Rattle.saga_closure.proofs.chains.unbounded_chain.Goals as goal
use Rattle.saga_closure.proofs.chains.unbounded_chain.Goals.{After-as_slice, After-as_slice-2}

only_is : (c : After-as_slice) → c.as_slice.result.now ≡ map endless c.args.net.now.caps.now
only_is c = c.as_slice.ensures.value ∙ c.in_ok-caps.ensures

on_is : (c : After-as_slice-2) → c.as_slice-2.result.now ≡ replicate (2 * c.steps.result + c.needs.result) 0
on_is c =
    let is : c.in_ok-on.on.items ≡ replicate (2 * c.steps.result + c.needs.result) 0 = search rules in
    c.as_slice-2.ensures.value ∙ is

empty : (c : After-as_slice-2) (k : ℕ) → get_or c.as_slice-2.result.now k 0 ≡ 0
empty c k = rw (on_is c) (zeros_empty (2 * c.steps.result + c.needs.result) k)

pub returns-then-not-has_forced-clause-none : goal.returns-then-not-has_forced-clause-none
returns-then-not-has_forced-clause-none c =
    let net = c.args.net.now in
    apart_from_start net.definition.now net.caps.now (c.has_forced.ensures c.if-not-has_forced.true)

pub invariant_of-only : goal.invariant_of-only
invariant_of-only c =
    let net = c.args.net.now in
    let is = only_is (goal.at.invariant_of-only c).After-as_slice in
    record {
      few = net.few;
      known = net.known;
      single = net.single;
      acyclic = net.acyclic;
      sized = rw is (only_sized net.definition.now net.caps.now [] net.sized net.small (λ k. refl));
      small = rw is (only_small net.definition.now net.caps.now [] net.sized net.small (λ k. refl));
    }

pub invariant_of-residual : goal.invariant_of-residual
invariant_of-residual c =
    let t : Terms = terms_by c.args.net.now.definition.now c.as_slice.result.now in
    let sized : length c.as_slice-2.result.now ≡ t.count + (t.count + length t.needs) = omega (arith, c.as_slice-2.ensures.len, c.in_ok-on.ensures.len, c.steps.ensures.count, c.needs.ensures.count) in
    record { amounts = omega (arith, sized, arcs_sized t) }

pub returns-in-None-clause-none : goal.returns-in-None-clause-none
returns-in-None-clause-none c =
    let at = (goal.at.returns-in-None-clause-none c).After-as_slice-2 in
    let net = c.args.net.now in
    let on : List ℕ = c.as_slice-2.result.now in
    let end : IsReach (terms_by net.definition.now c.as_slice.result.now) on c.in_ok-found.found = rw c.in-None.is at c.in_ok-found.ensures.none in
    apart_from_search net.definition.now net.caps.now on net.sized net.small (empty at)
    (no_path (terms_by net.definition.now (map endless net.caps.now)) on c.in_ok-found.found net.known (rw (only_is (goal.at.returns-in-None-clause-none c).After-as_slice) at end))

pub chain_to-requires-clause-at : goal.chain_to-requires-clause-at
chain_to-requires-clause-at c = rw c.in-Some.is at c.in_ok-found.ensures.goal

pub chain_to-requires-clause-empty : goal.chain_to-requires-clause-empty
chain_to-requires-clause-empty c = empty (goal.at.chain_to-requires-clause-empty c).After-as_slice-2

pub returns-clause-some : goal.returns-clause-some
returns-clause-some c =
    let at = (goal.at.returns-clause-some c).After-as_slice-2 in
    let net = c.args.net.now in
    let on : List ℕ = c.as_slice-2.result.now in
    let end : IsAtGoal (terms_by net.definition.now c.as_slice.result.now) on c.in_ok-found.found c.in-Some.goal = rw c.in-Some.is at c.in_ok-found.ensures.goal in
    let is : c.as_slice.result.now ≡ map endless net.caps.now = only_is (goal.at.returns-clause-some c).After-as_slice in
    let out : GoesOut (terms_by net.definition.now c.as_slice.result.now) on c.in-Some.goal.step = (record { arc = length net.definition.now.steps + c.in-Some.goal.step; forward = true }, end.goes) in
    chain_right net.definition.now net.caps.now on net.sized net.small (empty at) c.in-Some.goal.step _ end.inside (rw is at out) (rw is at c.in_ok-chain_to-in-Some.ensures)
