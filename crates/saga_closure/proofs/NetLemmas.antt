-- The network over a definition's lists is that of the case whose prices its capacities are.
use Rattle.std.proofs.Common.{ℕ, zero, suc, ◌≡◌, ◌<◌, ◌≤◌, ◌+◌, ◌*◌, ◌-◌, ◌^◌, ◌∙◌, false, List, length, get_or, ap, sym, subst, refl, arith, inl, inr}
use Rattle.std.specs.Prelude.{IsTrue, ◌↔◌, slice_index_or}
use Rattle.std.proofs.lemmas.Bool.{cases_eq, cases_lt, ne_eqb, eq-eqb}
use Rattle.std.proofs.lemmas.List.{get_or_past}
use Rattle.saga_def.specs.Contents.{Contents}
use Rattle.saga_def.specs.declared.steps.Price.{Price}
use Rattle.saga_def.specs.declared.steps.Price.TheVariants as price
use Rattle.saga_case.specs.Terms.{Terms}
use Rattle.saga_case.specs.Right.{IsRightChain}
use Rattle.saga_flow.specs.declared.nets.Arc.{Arc}
use Rattle.saga_flow.specs.Network.{IsNetwork, ends_within, bound_sum}
use Rattle.saga_flow.specs.Flows.{IsFlow, HasValue, IsGreatest}
use Rattle.saga_flow.specs.Reached.{Reaches}
use Rattle.saga_flow.specs.Residual.{IsResidual}
use Rattle.saga_flow.specs.Rounds.{IsReachedIn}
use Rattle.saga_flow.specs.declared.nets.Cap.TheVariants as cap
use Rattle.saga_closure.specs.Capacities.{amount_of, price_of, terms_by, AreCapacities}
use Rattle.saga_closure.specs.Largest.{IsLargest}
use Rattle.saga_closure.specs.declared.flows.ClosureFlow.{ClosureFlow}
use Rattle.saga_closure.specs.CaseNet.{leave_arc, stand_arc, arcs_below, cap_of, network_of}

pub price_never : (x : ℕ) → x ≡ 2 ^ 63 → price_of x ≡ price.Never
price_never x is = rw (eq-eqb x (2 ^ 63) is) refl

pub price_number : (x : ℕ) → (x ≡ 2 ^ 63 → ⊥) → price_of x ≡ price.Of x
price_number x ne = rw (ne_eqb x (2 ^ 63) ne) refl

-- a capacity as a price, and back
amount_is : (x : ℕ) → x ≡ amount_of (price_of x)
amount_is x = elim (cases_eq x (2 ^ 63)) [
  | inl e ↦ e ∙ sym (ap amount_of (price_never x e))
  | inr ne ↦ sym (ap amount_of (price_number x ne))
]

small_is : (x a : ℕ) → x ≤ 2 ^ 63 → price_of x ≡ price.Of a → a < 2 ^ 63
small_is x a most is = elim (cases_eq x (2 ^ 63)) [
  | inl e ↦ absurd (never (sym (price_never x e) ∙ is))
  | inr ne ↦ let same : a ≡ x = number (sym (price_number x ne) ∙ is) in omega (arith, most, ne, same)
]
  where
    never : price.Never ≡ price.Of a → ⊥
    never e = cc

    number : price.Of x ≡ price.Of a → a ≡ x
    number e = cc

pub never_price : (x : ℕ) → price_of x ≡ price.Never → x ≡ 2 ^ 63
never_price x is = elim (cases_eq x (2 ^ 63)) [
  | inl e ↦ e
  | inr ne ↦ absurd (number (sym (price_number x ne) ∙ is))
]
  where
    number : price.Of x ≡ price.Never → ⊥
    number e = cc

pub unbounded_never : (p : Price) → cap_of p ≡ cap.Unbounded → p ≡ price.Never
unbounded_never (price.Of a) e = absurd (cc)
unbounded_never price.Never e = refl

amount_small : (p : Price) → ((a : ℕ) → p ≡ price.Of a → a < 2 ^ 63) → amount_of p ≤ 2 ^ 63
amount_small (price.Of a) small = omega (arith, small a refl)
amount_small price.Never small = omega arith

pub caps_small : (t : Terms) (caps : List ℕ) → AreCapacities t caps → (k : ℕ) → get_or caps k 0 ≤ 2 ^ 63
caps_small t caps are k = elim (cases_lt k t.count) [
  | inl first ↦ omega (arith, are.leave k first, amount_small (t.leave k) (λ a e. are.leave_small k a first e))
  | inr past ↦ elim (cases_lt (k - t.count) t.count) [
    | inl second ↦
        let e : t.count + (k - t.count) ≡ k = omega (arith, past) in
        omega (arith, rw e at (are.stand (k - t.count) second), amount_small (t.stand (k - t.count)) (λ a q. are.stand_small (k - t.count) a second q))
    | inr third ↦ omega (arith, get_or_past caps k 0 (omega (arith, past, third, are.sized)))
  ]
]

pub own_capacities : (d : Contents) (caps : List ℕ) → length caps ≡ length d.steps + length d.steps → ((k : ℕ) → get_or caps k 0 ≤ 2 ^ 63) → AreCapacities (terms_by d caps) caps
own_capacities d caps sized small = record {
  sized = sized;
  leave = λ s lt. amount_is (get_or caps s 0);
  stand = λ s lt. amount_is (get_or caps (length d.steps + s) 0);
  leave_small = λ s a lt is. small_is (get_or caps s 0) a (small s) is;
  stand_small = λ s a lt is. small_is (get_or caps (length d.steps + s) 0) a (small (length d.steps + s)) is;
}

pub price_is : (p : Price) → ((a : ℕ) → p ≡ price.Of a → a < 2 ^ 63) → price_of (amount_of p) ≡ p
price_is (price.Of a) small = price_number a (λ e. absurd (omega (arith, small a refl, e)))
price_is price.Never small = price_never (2 ^ 63) refl

arcs_same : (n : ℕ) (f g : ℕ → Arc) → ((s : ℕ) → s < n → f s ≡ g s) → arcs_below n f ≡ arcs_below n g
unfolding arcs_below
arcs_same zero f g same = refl
arcs_same (suc n) f g same = rw (arcs_same n f g (λ s lt. same s (omega (arith, lt))), same n (omega arith)) refl

module _ (t : Terms) (d : Contents) (caps : List ℕ) (are : AreCapacities t caps) (count : t.count ≡ length d.steps) (needs : t.needs ≡ d.needs) where
  pub leave_same : (s : ℕ) → s < t.count → price_of (get_or caps s 0) ≡ t.leave s
  leave_same s lt = ap price_of (are.leave s lt) ∙ price_is (t.leave s) (λ a e. are.leave_small s a lt e)

  pub stand_same : (s : ℕ) → s < t.count → price_of (get_or caps (length d.steps + s) 0) ≡ t.stand s
  stand_same s lt = rw (← count) (ap price_of (are.stand s lt) ∙ price_is (t.stand s) (λ a e. are.stand_small s a lt e))

  leave_arcs : arcs_below (length d.steps) (leave_arc (terms_by d caps)) ≡ arcs_below t.count (leave_arc t)
  leave_arcs =
      arcs_same (length d.steps) (leave_arc (terms_by d caps)) (leave_arc t) (λ s lt. rw (leave_same s (omega (arith, lt, count))) refl)
      ∙ ap (λ n. arcs_below n (leave_arc t)) (sym count)

  stand_arcs : arcs_below (length d.steps) (stand_arc (terms_by d caps)) ≡ arcs_below t.count (stand_arc t)
  stand_arcs =
      arcs_same (length d.steps) (stand_arc (terms_by d caps)) (stand_arc t) (λ s lt. rw (stand_same s (omega (arith, lt, count))) refl)
      ∙ ap (λ n. arcs_below n (stand_arc t)) (sym count)

  pub same_arcs : (network_of (terms_by d caps)).arcs ≡ (network_of t).arcs
  same_arcs = rw (leave_arcs, stand_arcs, ← needs) refl

  -- what is found over the lists is found of the case
  pub same_chain : (chain : List ℕ) → IsRightChain (terms_by d caps) chain → IsRightChain t chain
  same_chain chain right =
      let first : get_or chain 0 0 < t.count = omega (arith, right.steps.known 0 0 right.steps.some, count) in
      let last : get_or chain (length chain - 1) 0 < t.count = omega (arith, right.steps.known (length chain - 1) 0 (omega (arith, right.steps.some)), count) in
      record {
        steps = record { some = right.steps.some; known = λ k x lt. omega (arith, right.steps.known k x lt, count) };
        forced = sym (leave_same (get_or chain 0 0) first) ∙ right.forced;
        linked = rw needs (record { each = right.linked.each });
        forbidden = sym (stand_same (get_or chain (length chain - 1) 0) last) ∙ right.forbidden;
      }

  pub same_largest : (f : ClosureFlow) → IsLargest (terms_by d caps) f → IsLargest t f
  same_largest f most = record {
    flow = subst (λ (arcs : List Arc). IsFlow arcs f.on.items) same_arcs most.flow;
    value = subst (λ (arcs : List Arc). HasValue arcs f.on.items f.value) same_arcs most.value;
    greatest = subst (λ (arcs : List Arc). IsGreatest arcs f.value) same_arcs most.greatest;
    cut = subst (λ (arcs : List Arc). Reaches (IsResidual arcs f.on.items) 0 1 → ⊥) same_arcs most.cut;
    rounds = subst (λ (arcs : List Arc). IsReachedIn arcs f.on.items f.rounds) same_arcs most.rounds;
    by_value = most.by_value;
    by_size =
        subst (λ n. f.rounds ≤ (n + 2) * length (network_of t).arcs) (sym count)
        (subst (λ (arcs : List Arc). f.rounds ≤ (length d.steps + 2) * length arcs) same_arcs most.by_size);
    sized = most.sized ∙ sym count;
    exact = λ v lt. subst (λ (arcs : List Arc). IsTrue (slice_index_or f.reached.items v false) ↔ Reaches (IsResidual arcs f.on.items) 0 (2 + v)) same_arcs (most.exact v (omega (arith, lt, count)));
  }

  -- and the network is one
  pub same_net : IsNetwork (network_of t) → IsNetwork (network_of (terms_by d caps))
  same_net net = record {
    two = omega arith;
    ends = subst (λ n. IsTrue (ends_within (n + 2) (network_of (terms_by d caps)).arcs)) count (subst (λ (arcs : List Arc). IsTrue (ends_within (t.count + 2) arcs)) (sym same_arcs) net.ends);
    bounded = subst (λ (arcs : List Arc). bound_sum arcs < 2 ^ 63) (sym same_arcs) net.bounded;
  }
