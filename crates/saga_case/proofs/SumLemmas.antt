-- Sums of prices.
use Rattle.std.proofs.Common.{ℕ, ◌≡◌, ◌≢◌, ◌<◌, ◌≤◌, ◌+◌, ◌∙◌, ap, sym, refl, arith, zero, suc, add-one, inl, inr}
use Rattle.std.proofs.lemmas.Bool.{cases_eq}
use Rattle.saga_def.specs.declared.steps.Price.{Price}
use Rattle.saga_def.specs.declared.steps.Price.TheVariants.{Of, Never}
use Rattle.saga_case.specs.Prices.{plus}
use Rattle.saga_case.specs.Terms.{prices_below}
use Rattle.saga_case.specs.Flow.{sum_below, FitsIn}

-- no price below 0
pub prices_none : (price : ℕ → Price) → prices_below 0 price ≡ Of 0
unfolding prices_below
prices_none price = refl

-- one more price
pub prices_more : (n : ℕ) (price : ℕ → Price) → prices_below (n + 1) price ≡ plus (prices_below n price) (price n)
unfolding prices_below
prices_more n price = rw add-one refl

plus-never : (p : Price) → plus p Never ≡ Never
plus-never (Of a) = refl
plus-never Never = refl

-- one price that is never makes the sum never
pub prices_never : (n k : ℕ) (price : ℕ → Price) → k < n → price k ≡ Never → prices_below n price ≡ Never
unfolding prices_below
prices_never zero k price lt never = absurd (omega (arith, lt))
prices_never (suc n) k price lt never = elim (cases_eq k n) [
  | inl same ↦ rw (ap price (sym same) ∙ never) (plus-never (prices_below n price))
  | inr apart ↦ rw (prices_never n k price (omega arith) never) refl
]

of_same : (a b : ℕ) → Of a ≡ Of b → a ≡ b
of_same a b e = cc

of_never : (a : ℕ) → Never ≡ Of a → ⊥
of_never a e = cc

split_sum : (q r : Price) (x y cost : ℕ) → ((c : ℕ) → q ≡ Of c → x ≤ c) → FitsIn y r → plus q r ≡ Of cost → x + y ≤ cost
split_sum (Of a) (Of b) x y cost below fits is =
    let e : a + b ≡ cost = of_same (a + b) cost is in
    omega (arith, e, below a refl, fits)
split_sum (Of a) Never x y cost below fits is = absurd (of_never cost is)
split_sum Never r x y cost below fits is = absurd (of_never cost is)

-- ---- sums of amounts

pub sum_none : (f : ℕ → ℕ) → sum_below 0 f ≡ 0
unfolding sum_below
sum_none f = refl

pub sum_more : (n : ℕ) (f : ℕ → ℕ) → sum_below (n + 1) f ≡ sum_below n f + f n
unfolding sum_below
sum_more n f = rw add-one refl

pub sum_same : (n : ℕ) (f g : ℕ → ℕ) → ((s : ℕ) → s < n → f s ≡ g s) → sum_below n f ≡ sum_below n g
unfolding sum_below
sum_same zero f g same = refl
sum_same (suc n) f g same = omega (arith, sum_same n f g (λ s lt. same s (omega arith)), same n (omega arith))

pub sum_le : (n : ℕ) (f g : ℕ → ℕ) → ((s : ℕ) → s < n → f s ≤ g s) → sum_below n f ≤ sum_below n g
unfolding sum_below
sum_le zero f g le = omega arith
sum_le (suc n) f g le = omega (arith, sum_le n f g (λ s lt. le s (omega arith)), le n (omega arith))

pub sum_add : (n : ℕ) (f g : ℕ → ℕ) → sum_below n (λ s. f s + g s) ≡ sum_below n f + sum_below n g
unfolding sum_below
sum_add zero f g = omega arith
sum_add (suc n) f g = omega (arith, sum_add n f g)

pub sum_zero : (n : ℕ) (f : ℕ → ℕ) → ((s : ℕ) → s < n → f s ≡ 0) → sum_below n f ≡ 0
unfolding sum_below
sum_zero zero f none = refl
sum_zero (suc n) f none = omega (arith, sum_zero n f (λ s lt. none s (omega arith)), none n (omega arith))

-- a sum with one term that is not 0
pub sum_one : (n k : ℕ) (f : ℕ → ℕ) → k < n → ((s : ℕ) → s < n → s ≢ k → f s ≡ 0) → sum_below n f ≡ f k
unfolding sum_below
sum_one zero k f lt others = absurd (omega (arith, lt))
sum_one (suc n) k f lt others = elim (cases_eq k n) [
  | inl same ↦
      let below : sum_below n f ≡ 0 = sum_zero n f (λ s less. others s (omega arith) (λ e. absurd (omega (arith, e, same, less)))) in
      omega (arith, below, ap f same)
  | inr apart ↦
      let before : sum_below n f ≡ f k = sum_one n k f (omega arith) (λ s less. others s (omega arith)) in
      let last : f n ≡ 0 = others n (omega arith) (λ e. apart (sym e)) in
      omega (arith, before, last)
]

-- amounts within prices add up to at most the prices' sum, where that is a number
pub sum_within : (n : ℕ) (f : ℕ → ℕ) (price : ℕ → Price) (cost : ℕ) → ((s : ℕ) → s < n → FitsIn (f s) (price s)) → prices_below n price ≡ Of cost → sum_below n f ≤ cost
unfolding sum_below prices_below
sum_within zero f price cost fits is = omega arith
sum_within (suc n) f price cost fits is =
    split_sum (prices_below n price) (price n) (sum_below n f) (f n) cost (λ c e. sum_within n f price c (λ s lt. fits s (omega arith)) e) (fits n (omega arith)) is
