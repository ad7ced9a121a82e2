-- Of rules in order at most one is the first that is not kept.
use Rattle.std.proofs.Common.{◌≡◌, ℕ, zero, suc, List, [], ◌∷◌, refl, ap}

-- the rules before the one at this place are kept, and that one is not
abbrev pub IsFirstBroken : List (Type 0) → ℕ → Type 0
IsFirstBroken [] n = ⊥
IsFirstBroken (R ∷ Rs) zero = ¬ R
IsFirstBroken (R ∷ Rs) (suc n) = R × IsFirstBroken Rs n

abbrev pub AreKept : List (Type 0) → Type 0
AreKept [] = Unit {0}
AreKept (R ∷ Rs) = R × AreKept Rs

pub first_broken_once : (Rs : List (Type 0)) (m n : ℕ) → IsFirstBroken Rs m → IsFirstBroken Rs n → m ≡ n
first_broken_once [] m n p q = absurd p
first_broken_once (R ∷ Rs) zero zero p q = refl
first_broken_once (R ∷ Rs) zero (suc n) p q = absurd (p q.0)
first_broken_once (R ∷ Rs) (suc m) zero p q = absurd (q p.0)
first_broken_once (R ∷ Rs) (suc m) (suc n) p q = ap (λ k. suc k) (first_broken_once Rs m n p.1 q.1)

pub none_broken : (Rs : List (Type 0)) (n : ℕ) → AreKept Rs → IsFirstBroken Rs n → ⊥
none_broken [] n kept p = p
none_broken (R ∷ Rs) zero kept p = p kept.0
none_broken (R ∷ Rs) (suc n) kept p = none_broken Rs n kept.1 p.1
