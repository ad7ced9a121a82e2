-- A chain from a step that cannot be left out to one that cannot stand: no set is allowed.
use Rattle.std.proofs.Common.{ℕ, ◌≡◌, ◌<◌, ◌+◌, ◌-◌, List, length, get_or, subst, arith, zero, suc}
use Rattle.std.specs.Prelude.{true}
use Rattle.std.proofs.lemmas.Bool.{true_from_ne_false}
use Rattle.saga_def.specs.declared.steps.Price.TheVariants.{Never}
use Rattle.saga_def.specs.Order.{Steps}
use Rattle.saga_case.specs.Terms.{Terms, price_in, IsAllowed, NoneIsAllowed}
use Rattle.saga_case.specs.Right.{IsLinked, IsRightChain}
use Rattle.saga_case.proofs.SumLemmas.{prices_never}
use Rattle.saga_case.proofs.ClosedLemmas.{closed_direct}

-- a step that cannot be left out is in each allowed set
pub forced_stands : (t : Terms) (set : Steps) (s : ℕ) → s < t.count → t.leave s ≡ Never → IsAllowed t set → set s ≡ true
forced_stands t set s lt forced allowed =
    true_from_ne_false (set s) (λ out. allowed.priced (prices_never t.count s (price_in t set) lt (rw out forced)))

-- a step that cannot stand is in no allowed set
pub forbidden_leaves : (t : Terms) (set : Steps) (s : ℕ) → s < t.count → t.stand s ≡ Never → IsAllowed t set → set s ≡ true → ⊥
forbidden_leaves t set s lt forbidden allowed here =
    allowed.priced (prices_never t.count s (price_in t set) lt (rw here forbidden))

-- from its first step on, each step of the chain is in the set
along : (t : Terms) (chain : List ℕ) (set : Steps) → IsLinked t chain → IsAllowed t set → set (get_or chain 0 0) ≡ true → (k : ℕ) → k < length chain → set (get_or chain k 0) ≡ true
along t chain set linked allowed first zero lt = first
along t chain set linked allowed first (suc k) lt =
    let e : k + 1 ≡ suc k = omega arith in
    let next : set (get_or chain (k + 1) 0) ≡ true =
    closed_direct t.needs set allowed.closed (get_or chain k 0) (get_or chain (k + 1) 0)
    (along t chain set linked allowed first k (omega arith)) (linked.each k (omega arith)) in
    subst (λ (m : ℕ). set (get_or chain m 0) ≡ true) e next

pub NoneIsAllowed-chain : (t : Terms) (chain : List ℕ) → IsRightChain t chain → NoneIsAllowed t
NoneIsAllowed-chain t chain right = record {
  none = λ set allowed.
      let first : set (get_or chain 0 0) ≡ true =
      forced_stands t set (get_or chain 0 0) (right.steps.known 0 0 right.steps.some) right.forced allowed in
      let last : length chain - 1 < length chain = omega (arith, right.steps.some) in
      forbidden_leaves t set (get_or chain (length chain - 1) 0) (right.steps.known (length chain - 1) 0 last) right.forbidden allowed
      (along t chain set right.linked allowed first (length chain - 1) last);
}
