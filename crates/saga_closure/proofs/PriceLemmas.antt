-- The network of a case is one: its ends are nodes, and its capacities add up to less than 2 ^ 63.
use Rattle.std.proofs.Common.{ℕ, ◌≡◌, ◌<◌, ◌≤◌, ◌+◌, ◌*◌, ◌^◌, [], Bool, inl, inr, length, get_or, refl, arith, zero, suc, true, false}
use Rattle.std.specs.Prelude.{IsTrue, ◌&&◌, nat_lt}
use Rattle.std.proofs.lemmas.Bool.{lt-ltb, cases_lt}
use Rattle.std.proofs.lemmas.Option.{slice_get_past, slice_get-get_or}
use Rattle.std.proofs.lemmas.List.Sums.{list_all-from_AllPass}
use Rattle.saga_def.specs.declared.steps.Price.{Price}
use Rattle.saga_def.specs.declared.steps.Price.TheVariants.{Of, Never}
use Rattle.saga_def.specs.declared.steps.Step.{Step}
use Rattle.saga_def.specs.Rules.{IsSmall, HasSmallPrices}
use Rattle.saga_case.specs.declared.states.StepState.{StepState}
use Rattle.saga_case.specs.declared.states.StepState.TheVariants.{Waiting, Running, Committed, Void, Undoing, Fixed}
use Rattle.saga_case.specs.Prices.{plus, leave_of, stand_of, free_skip, IsBounded}
use Rattle.saga_case.specs.Situation.{Situation, IsAtRest}
use Rattle.saga_case.specs.Terms.{Terms, terms_of, price_by}
use Rattle.saga_case.specs.Flow.{sum_below}
use Rattle.saga_flow.specs.declared.nets.Arc.{Arc}
use Rattle.saga_flow.specs.Network.{bound_of, bound_sum, ends_within}
use Rattle.saga_closure.specs.CaseNet.{cap_of, network_of}
use Rattle.saga_closure.proofs.ArcLemmas.{each_arc, sum_network}

small_bounded : (p : Price) → IsSmall p → IsBounded p
small_bounded (Of a) small = omega (arith, small)
small_bounded Never small = tt

plus_bounded : (p q : Price) → IsSmall p → IsSmall q → IsBounded (plus p q)
plus_bounded (Of a) (Of b) first second = omega (arith, first, second)
plus_bounded (Of a) Never first second = tt
plus_bounded Never q first second = tt

skip_bounded : (p : Price) → IsBounded (free_skip p)
skip_bounded (Of a) = omega arith
skip_bounded Never = tt

leave_bounded : (state : StepState) (step : Step) → HasSmallPrices step → IsBounded (leave_of state step)
leave_bounded Running step small = tt
leave_bounded Committed step small = plus_bounded step.undo step.skip small.undo small.skip
leave_bounded Void step small = skip_bounded step.skip
leave_bounded Undoing step small = tt
leave_bounded Fixed step small = tt
leave_bounded _ step small = small_bounded step.skip small.skip

stand_bounded : (aborted : Bool) (state : StepState) (step : Step) → HasSmallPrices step → IsBounded (stand_of aborted state step)
stand_bounded false Waiting step small = plus_bounded step.run step.keep small.run small.keep
stand_bounded aborted Committed step small = small_bounded step.keep small.keep
stand_bounded aborted Void step small = omega arith
stand_bounded aborted Fixed step small = small_bounded step.keep small.keep
stand_bounded _ _ step small = tt

any_step : Step
any_step = record { name = []; run = Never; undo = Never; skip = Never; keep = Never; tries = 0; undo_tries = 0 }

price_bounded : (price : StepState → Step → Price) (c : Situation) → IsAtRest c → ((state : StepState) (step : Step) → HasSmallPrices step → IsBounded (price state step)) → (s : ℕ) → IsBounded (price_by price c s)
price_bounded price c rest each s = elim (cases_lt s (length c.definition.steps)) [
  | inl less ↦ rw (slice_get-get_or c.definition.steps s any_step less) (each _ _ (rest.sound.small s any_step less))
  | inr past ↦ rw (slice_get_past c.definition.steps s past) tt
]

cap_bounded : (p : Price) → IsBounded p → bound_of (cap_of p) ≤ 2000000000
cap_bounded (Of a) bounded = bounded
cap_bounded Never bounded = omega arith

sum_bounded : (n : ℕ) (f : ℕ → ℕ) (most : ℕ) → ((s : ℕ) → f s ≤ most) → sum_below n f ≤ n * most
unfolding sum_below
sum_bounded zero f most each = omega arith
sum_bounded (suc n) f most each = omega (arith, sum_bounded n f most each, each n)

pub case_bounded : (c : Situation) → IsAtRest c → bound_sum (network_of (terms_of c)).arcs < 2 ^ 63
case_bounded c rest =
    let t : Terms = terms_of c in
    let leave : sum_below t.count (λ s. bound_of (cap_of (t.leave s))) ≤ t.count * 2000000000 =
    sum_bounded t.count _ 2000000000 (λ s. cap_bounded (t.leave s) (price_bounded leave_of c rest leave_bounded s)) in
    let stand : sum_below t.count (λ s. bound_of (cap_of (t.stand s))) ≤ t.count * 2000000000 =
    sum_bounded t.count _ 2000000000 (λ s. cap_bounded (t.stand s) (price_bounded (stand_of c.aborted) c rest (stand_bounded c.aborted) s)) in
    let few : t.count ≤ 1024 = rest.sound.few_steps in
    omega (arith, sum_network t (λ (a : Arc). bound_of a.cap) (λ n. refl), leave, stand, few)

both : (a b n : ℕ) → a < n → b < n → (nat_lt a n && nat_lt b n) ≡ true
both a b n first second = rw (lt-ltb a n first, lt-ltb b n second) refl

pub case_ends : (c : Situation) (nodes : ℕ) → nodes ≡ length c.definition.steps + 2 → IsAtRest c → IsTrue (ends_within nodes (network_of (terms_of c)).arcs)
case_ends c nodes is rest =
    let t : Terms = terms_of c in
    list_all-from_AllPass (λ (a : Arc). nat_lt a.from nodes && nat_lt a.to nodes) (network_of t).arcs
    (λ k d lt. each_arc t (λ (a : Arc). (nat_lt a.from nodes && nat_lt a.to nodes) ≡ true)
    (λ s less. both 0 (2 + s) nodes (omega (arith, is)) (omega (arith, is, less)))
    (λ s less. both (2 + s) 1 nodes (omega (arith, is, less)) (omega (arith, is)))
    (λ i e less. let known = rest.sound.known i e less in both _ _ nodes (omega (arith, is, known.0)) (omega (arith, is, known.1)))
    k (get_or (network_of t).arcs k d) (slice_get-get_or (network_of t).arcs k d lt))
