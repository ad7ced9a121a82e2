-- The bound of a cut of a case's network is the cost of its steps, which are an allowed set; and each allowed set gives a cut.
use Rattle.std.proofs.Common.{ℕ, ◌≡◌, ◌<◌, ◌+◌, ◌-◌, ◌∙◌, Bool, true, false, not, ◌&&◌, cond, eqb, List, length, get_or, ap, sym, refl, arith, zero, suc}
use Rattle.std.specs.Prelude.{if◌then◌else◌}
use Rattle.std.proofs.lemmas.Bool.{and_parts, true≢false, false≢true, not-true, ne_eqb, true_from_ne_false, both_ways}
use Rattle.std.proofs.lemmas.List.Elements.{All-contains, Contains-get_or}
use Rattle.saga_def.specs.declared.steps.Need.{Need}
use Rattle.saga_def.specs.declared.steps.Price.{Price}
use Rattle.saga_def.specs.declared.steps.Price.TheVariants as price
use Rattle.saga_def.specs.Order.{Steps, IsClosed}
use Rattle.saga_case.specs.Terms.{Terms, price_in, prices_below, cost_of, IsAllowed}
use Rattle.saga_case.specs.Flow.{sum_below}
use Rattle.saga_case.proofs.ClosedLemmas.{closed_direct, closed_from_direct}
use Rattle.saga_case.proofs.SumLemmas.{prices_never, sum_add}
use Rattle.saga_flow.specs.declared.nets.Arc.{Arc}
use Rattle.saga_flow.specs.declared.nets.Cap.TheVariants as cap
use Rattle.saga_flow.specs.Network.{bound_of}
use Rattle.saga_flow.proofs.LeastCut.{leaves, cut_bound, IsCut}
use Rattle.saga_closure.specs.CaseNet.{cap_of, leave_arc, stand_arc, link_arc, network_of}
use Rattle.saga_closure.proofs.NetLemmas.{unbounded_never}
use Rattle.saga_closure.proofs.ArcLemmas.{sum_network, each_arc, leave_at, stand_at, link_at}

-- the steps of a set of nodes
abbrev pub steps_in : (ℕ → Bool) → Steps
steps_in S s = S (2 + s)

-- ---- sets with the same members

pub closed_same : (needs : List Need) (few many : Steps) → ((s : ℕ) → few s ≡ many s) → IsClosed needs few → IsClosed needs many
closed_same needs few many same closed = record {
  holds = λ a b here before. sym (same a) ∙ closed.holds a b (same b ∙ here) before;
}

prices_same : (n : ℕ) (p q : ℕ → Price) → ((s : ℕ) → p s ≡ q s) → prices_below n p ≡ prices_below n q
unfolding prices_below
prices_same zero p q same = refl
prices_same (suc n) p q same = rw (prices_same n p q same, same n) refl

pub cost_same : (t : Terms) (few many : Steps) → ((s : ℕ) → few s ≡ many s) → cost_of t few ≡ cost_of t many
cost_same t few many same =
    prices_same t.count (price_in t few) (price_in t many) (λ s. ap (λ b. if b then t.stand s else t.leave s) (same s))

-- ---- the cost of the steps of a cut

prices_sum : (n : ℕ) (p : ℕ → Price) (f : ℕ → ℕ) → ((s : ℕ) → s < n → p s ≡ price.Of (f s)) → prices_below n p ≡ price.Of (sum_below n f)
unfolding prices_below sum_below
prices_sum zero p f each = refl
prices_sum (suc n) p f each = rw (prices_sum n p f (λ s lt. each s (omega (arith, lt))), each n (omega arith)) refl

-- what a step adds to the bound of a cut is its price
share_is : (source sink here : Bool) (p q : Price) → source ≡ true → sink ≡ false → ((source && not here) ≡ true → cap_of p ≡ cap.Unbounded → ⊥) → ((here && not sink) ≡ true → cap_of q ≡ cap.Unbounded → ⊥) → (if here then q else p) ≡ price.Of (cond (source && not here) (bound_of (cap_of p)) 0 + cond (here && not sink) (bound_of (cap_of q)) 0)
share_is false sink here p q in_it out first second = absurd (false≢true in_it)
share_is true true here p q in_it out first second = absurd (true≢false out)
share_is true false true p (price.Of b) in_it out first second = ap price.Of (omega arith)
share_is true false true p price.Never in_it out first second = absurd (second refl refl)
share_is true false false (price.Of a) q in_it out first second = ap price.Of (omega arith)
share_is true false false price.Never q in_it out first second = absurd (first refl refl)

no_share : (b : Bool) → ◌≡◌ {A = ℕ} (cond b 0 0) 0
no_share true = refl
no_share false = refl

pub cut_is_cost : (t : Terms) (S : ℕ → Bool) → IsCut S (network_of t).arcs → cost_of t (steps_in S) ≡ price.Of (cut_bound S (network_of t).arcs)
cut_is_cost t S cut =
    let arcs : List Arc = (network_of t).arcs in
    let leave : ℕ → ℕ = λ s. cond (S 0 && not (S (2 + s))) (bound_of (cap_of (t.leave s))) 0 in
    let stand : ℕ → ℕ = λ s. cond (S (2 + s) && not (S 1)) (bound_of (cap_of (t.stand s))) 0 in
    let bound : cut_bound S arcs ≡ sum_below t.count leave + sum_below t.count stand =
    sum_network t (λ (a : Arc). cond (leaves S a) (bound_of a.cap) 0) (λ n. no_share _) in
    prices_sum t.count (price_in t (steps_in S)) (λ s. leave s + stand s)
    (λ s lt. share_is (S 0) (S 1) (S (2 + s)) (t.leave s) (t.stand s) cut.source cut.sink (cut.bounded s (leave_arc t s) (leave_at t s lt)) (cut.bounded (t.count + s) (stand_arc t s) (stand_at t s lt)))
    ∙ ap price.Of (sum_add t.count leave stand ∙ sym bound)

-- an unbounded arc does not leave a cut, so its steps are closed
pub cut_is_closed : (t : Terms) (S : ℕ → Bool) → IsCut S (network_of t).arcs → IsClosed t.needs (steps_in S)
cut_is_closed t S cut =
    closed_from_direct t.needs (steps_in S) (λ b a here direct.
    All-contains (λ (n : Need). S (2 + n.step) ≡ true → S (2 + n.on) ≡ true) t.needs (record { step = b; on = a })
    (λ i d lt in_it. true_from_ne_false (S (2 + (get_or t.needs i d).on)) (λ out.
    cut.bounded (t.count + (t.count + i)) (link_arc (get_or t.needs i d)) (link_at t i d lt) (rw (in_it, out) refl) refl))
    direct here)

pub cut_is_allowed : (t : Terms) (S : ℕ → Bool) → IsCut S (network_of t).arcs → IsAllowed t (steps_in S)
cut_is_allowed t S cut = record {
  closed = cut_is_closed t S cut;
  priced = λ never. of_never _ (sym (cut_is_cost t S cut) ∙ never);
}
  where
    of_never : (c : ℕ) → price.Of c ≡ price.Never → ⊥
    of_never c e = cc

-- ---- the cut of an allowed set

-- the source and the nodes of the steps
abbrev pub side : Steps → ℕ → Bool
side set v = cond (eqb v 0) true (cond (eqb v 1) false (set (v - 2)))

pub side_step : (set : Steps) (s : ℕ) → side set (2 + s) ≡ set s
side_step set s =
    let e : 2 + s - 2 ≡ s = omega arith in
    rw (ne_eqb (2 + s) 0 (λ q. absurd (omega (arith, q))), ne_eqb (2 + s) 1 (λ q. absurd (omega (arith, q)))) (ap set e)

pub allowed_is_cut : (t : Terms) (set : Steps) → IsAllowed t set → IsCut (side set) (network_of t).arcs
allowed_is_cut t set allowed = record {
  source = refl;
  sink = refl;
  bounded = each_arc t (λ (a : Arc). leaves (side set) a ≡ true → a.cap ≡ cap.Unbounded → ⊥) left_out standing linked;
}
  where
    left_out : (s : ℕ) → s < t.count → leaves (side set) (leave_arc t s) ≡ true → cap_of (t.leave s) ≡ cap.Unbounded → ⊥
    left_out s lt out unbounded =
        let outside : set s ≡ false = sym (side_step set s) ∙ not-true _ (and_parts true (not (side set (2 + s))) out).1 in
        allowed.priced (prices_never t.count s (price_in t set) lt (rw outside (unbounded_never (t.leave s) unbounded)))

    standing : (s : ℕ) → s < t.count → leaves (side set) (stand_arc t s) ≡ true → cap_of (t.stand s) ≡ cap.Unbounded → ⊥
    standing s lt out unbounded =
        let inside : set s ≡ true = sym (side_step set s) ∙ (and_parts (side set (2 + s)) true out).0 in
        allowed.priced (prices_never t.count s (price_in t set) lt (rw inside (unbounded_never (t.stand s) unbounded)))

    linked : (i : ℕ) (d : Need) → i < length t.needs → leaves (side set) (link_arc (get_or t.needs i d)) ≡ true → cap.Unbounded ≡ cap.Unbounded → ⊥
    linked i d lt out unbounded =
        let n : Need = get_or t.needs i d in
        let parts = and_parts (side set (2 + n.step)) (not (side set (2 + n.on))) out in
        let inside : set n.step ≡ true = sym (side_step set n.step) ∙ parts.0 in
        let outside : set n.on ≡ false = sym (side_step set n.on) ∙ not-true _ parts.1 in
        both_ways (set n.on) outside (closed_direct t.needs set allowed.closed n.step n.on inside (Contains-get_or t.needs i d lt))

pub allowed_cost : (t : Terms) (set : Steps) → IsAllowed t set → cost_of t set ≡ price.Of (cut_bound (side set) (network_of t).arcs)
allowed_cost t set allowed =
    cost_same t set (steps_in (side set)) (λ s. sym (side_step set s)) ∙ cut_is_cost t (side set) (allowed_is_cut t set allowed)
