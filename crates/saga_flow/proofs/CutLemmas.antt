-- What crosses a set of nodes: for conserved amounts, the value and what enters the set are together what leaves it.
use Rattle.std.proofs.Common.{◌≡◌, ◌≢◌, ℕ, zero, suc, ◌+◌, ◌<◌, Bool, true, false, not, ◌&&◌, cond, ltb, eqb, List, get_or, refl, sym, ap, ◌∙◌, inl, inr, arith}
use Rattle.std.proofs.lemmas.Bool.{cases_order, lt-ltb, le-ltb, eq-eqb, ne_eqb}
use Rattle.saga_flow.specs.declared.nets.Arc.{Arc}
use Rattle.saga_flow.specs.Flows.{total, out_of, into, HasValue, IsFlow}
use Rattle.saga_flow.proofs.TotalLemmas.{total-same, total-add, total-none}
use Rattle.saga_flow.proofs.NetLemmas.{AreEnds}

-- what leaves the nodes of a set, inner arcs included
abbrev pub from_set : (ℕ → Bool) → List Arc → List ℕ → ℕ
from_set S arcs on = total (λ (a : Arc) x. cond (S a.from) x 0) arcs on

-- what enters the nodes of a set, inner arcs included
abbrev pub into_set : (ℕ → Bool) → List Arc → List ℕ → ℕ
into_set S arcs on = total (λ (a : Arc) x. cond (S a.to) x 0) arcs on

-- what goes from the set to the outside
abbrev pub leaving : (ℕ → Bool) → List Arc → List ℕ → ℕ
leaving S arcs on = total (λ (a : Arc) x. cond (S a.from && not (S a.to)) x 0) arcs on

-- what comes into the set from the outside
abbrev pub entering : (ℕ → Bool) → List Arc → List ℕ → ℕ
entering S arcs on = total (λ (a : Arc) x. cond (not (S a.from) && S a.to) x 0) arcs on

-- the members of a set below a number
abbrev part : (ℕ → Bool) → ℕ → ℕ → Bool
part S n v = S v && ltb v n

-- one more number gives its own share
at_tests : (inside with_it before itself : Bool) (x : ℕ) → with_it ≡ true → before ≡ false → itself ≡ true → cond (inside && with_it) x 0 ≡ cond (inside && before) x 0 + cond inside (cond itself x 0) 0
at_tests true with_it before itself x p q r = rw (p, q, r) (omega arith)
at_tests false with_it before itself x p q r = omega arith

at_others : (inside with_it before itself : Bool) (x : ℕ) → with_it ≡ before → itself ≡ false → cond (inside && with_it) x 0 ≡ cond (inside && before) x 0 + cond (inside) (cond itself x 0) 0
at_others true with_it before itself x p q = rw (p, q) (omega arith)
at_others false with_it before itself x p q = omega arith

share_more : (S : ℕ → Bool) (n v x : ℕ) → cond (part S (suc n) v) x 0 ≡ cond (part S n v) x 0 + cond (S n) (cond (eqb v n) x 0) 0
share_more S n v x =
    elim (cases_order v n) [
      | inl same ↦
          rw same (at_tests (S n) (ltb n (suc n)) (ltb n n) (eqb n n) x (lt-ltb n (suc n) (omega arith)) (le-ltb n n (omega arith)) (eq-eqb n n refl))
      | inr (inl less) ↦ others (S v) (S n) (lt-ltb v (suc n) (omega arith) ∙ sym (lt-ltb v n less)) (ne_eqb v n (λ q. absurd (omega arith)))
      | inr (inr more) ↦ others (S v) (S n) (le-ltb v (suc n) (omega arith) ∙ sym (le-ltb v n (omega arith))) (ne_eqb v n (λ q. absurd (omega arith)))
    ]
  where
    others : (inside here : Bool) → ltb v (suc n) ≡ ltb v n → eqb v n ≡ false → cond (inside && ltb v (suc n)) x 0 ≡ cond (inside && ltb v n) x 0 + cond here (cond (eqb v n) x 0) 0
    others inside true p q = rw (p, q) (omega arith)
    others inside false p q = rw p (omega arith)

-- the share of one number is what its node has, where it is in the set
share_of : (inside : Bool) (share : Arc → ℕ → ℕ) (arcs : List Arc) (on : List ℕ) → total (λ a x. cond inside (share a x) 0) arcs on ≡ cond inside (total share arcs on) 0
share_of true share arcs on = refl
share_of false share arcs on = total-none arcs on

from_more : (S : ℕ → Bool) (n : ℕ) (arcs : List Arc) (on : List ℕ) → from_set (part S (suc n)) arcs on ≡ from_set (part S n) arcs on + cond (S n) (out_of arcs on n) 0
from_more S n arcs on =
    total-same _ _ arcs on (λ k a at. share_more S n a.from (get_or on k 0))
    ∙ total-add (λ (a : Arc) x. cond (part S n a.from) x 0) (λ (a : Arc) x. cond (S n) (cond (eqb a.from n) x 0) 0) arcs on
    ∙ ap (λ y. from_set (part S n) arcs on + y) (share_of (S n) (λ (a : Arc) x. cond (eqb a.from n) x 0) arcs on)

into_more : (S : ℕ → Bool) (n : ℕ) (arcs : List Arc) (on : List ℕ) → into_set (part S (suc n)) arcs on ≡ into_set (part S n) arcs on + cond (S n) (into arcs on n) 0
into_more S n arcs on =
    total-same _ _ arcs on (λ k a at. share_more S n a.to (get_or on k 0))
    ∙ total-add (λ (a : Arc) x. cond (part S n a.to) x 0) (λ (a : Arc) x. cond (S n) (cond (eqb a.to n) x 0) 0) arcs on
    ∙ ap (λ y. into_set (part S n) arcs on + y) (share_of (S n) (λ (a : Arc) x. cond (eqb a.to n) x 0) arcs on)

-- no number is below 0
nothing_below : (inside below : Bool) (x : ℕ) → below ≡ false → cond (inside && below) x 0 ≡ 0
nothing_below true below x p = rw p refl
nothing_below false below x p = refl

from_nothing : (S : ℕ → Bool) (arcs : List Arc) (on : List ℕ) → from_set (part S 0) arcs on ≡ 0
from_nothing S arcs on =
    total-same _ (λ a x. 0) arcs on (λ k a at. nothing_below (S a.from) (ltb a.from 0) (get_or on k 0) (le-ltb a.from 0 (omega arith)))
    ∙ total-none arcs on

into_nothing : (S : ℕ → Bool) (arcs : List Arc) (on : List ℕ) → into_set (part S 0) arcs on ≡ 0
into_nothing S arcs on =
    total-same _ (λ a x. 0) arcs on (λ k a at. nothing_below (S a.to) (ltb a.to 0) (get_or on k 0) (le-ltb a.to 0 (omega arith)))
    ∙ total-none arcs on

module _ (S : ℕ → Bool) (arcs : List Arc) (on : List ℕ) (value : ℕ) (source : S 0 ≡ true) (sink : S 1 ≡ false) (conserved : (node : ℕ) → node ≢ 0 → node ≢ 1 → into arcs on node ≡ out_of arcs on node) (worth : HasValue arcs on value) where
  -- one node more keeps the balance
  balance_more : (n : ℕ) (inside : Bool) → S n ≡ inside → 0 < n → cond (S n) (out_of arcs on n) 0 ≡ cond (S n) (into arcs on n) 0
  balance_more n true p h =
      rw p (sym (conserved n (λ q. absurd (omega arith)) (λ q. absurd (both (ap S q)))))
    where
      both : S n ≡ S 1 → ⊥
      both q = let e : true ≡ false = sym p ∙ q ∙ sink in (cc)
  balance_more n false p h = rw p refl

  -- what leaves the members below a number is what enters them and the value
  balance_below : (n : ℕ) → from_set (part S (suc n)) arcs on ≡ into_set (part S (suc n)) arcs on + value
  balance_below zero =
      let first = from_more S 0 arcs on in
      let second = into_more S 0 arcs on in
      omega (arith, rw source at first, rw source at second, from_nothing S arcs on, into_nothing S arcs on, worth)
  balance_below (suc n) =
      omega (arith, from_more S (suc n) arcs on, into_more S (suc n) arcs on, balance_below n, balance_more (suc n) (S (suc n)) refl (omega arith))

-- a test that is true changes nothing
all_below : (inside below : Bool) (x : ℕ) → below ≡ true → cond (inside && below) x 0 ≡ cond inside x 0
all_below true below x p = rw p refl
all_below false below x p = refl

-- by whether the ends are in the set, an amount is counted alike on both sides
both_sides : (first second : Bool) (x : ℕ) → cond first x 0 + cond (not first && second) x 0 ≡ cond second x 0 + cond (first && not second) x 0
both_sides true true x = omega arith
both_sides true false x = omega arith
both_sides false true x = omega arith
both_sides false false x = omega arith

-- inner arcs cancel
sides : (S : ℕ → Bool) (arcs : List Arc) (on : List ℕ) → from_set S arcs on + entering S arcs on ≡ into_set S arcs on + leaving S arcs on
sides S arcs on =
    sym (total-add (λ (a : Arc) x. cond (S a.from) x 0) (λ (a : Arc) x. cond (not (S a.from) && S a.to) x 0) arcs on)
    ∙ total-same _ _ arcs on (λ k a at. both_sides (S a.from) (S a.to) (get_or on k 0))
    ∙ total-add (λ (a : Arc) x. cond (S a.to) x 0) (λ (a : Arc) x. cond (S a.from && not (S a.to)) x 0) arcs on

-- the value and what enters a set that holds the source and not the sink are what leaves it
pub value_across : (S : ℕ → Bool) (nodes : ℕ) (arcs : List Arc) (on : List ℕ) (value : ℕ) → S 0 ≡ true → S 1 ≡ false → AreEnds nodes arcs → IsFlow arcs on → HasValue arcs on value → value + entering S arcs on ≡ leaving S arcs on
value_across S nodes arcs on value source sink ends flow worth =
    let first = total-same (λ (a : Arc) x. cond (part S (suc nodes) a.from) x 0) (λ (a : Arc) x. cond (S a.from) x 0) arcs on (λ k a at. all_below (S a.from) (ltb a.from (suc nodes)) (get_or on k 0) (lt-ltb a.from (suc nodes) (omega (arith, (ends k a at).0)))) in
    let second = total-same (λ (a : Arc) x. cond (part S (suc nodes) a.to) x 0) (λ (a : Arc) x. cond (S a.to) x 0) arcs on (λ k a at. all_below (S a.to) (ltb a.to (suc nodes)) (get_or on k 0) (lt-ltb a.to (suc nodes) (omega (arith, (ends k a at).1)))) in
    omega (arith, balance_below S arcs on value source sink flow.conserved worth nodes, first, second, sides S arcs on)
