-- The marks of a list of numbers, and the numbers of marks.
use Rattle.std.proofs.Common.{◌≡◌, ℕ, ◌+◌, ◌<◌, ◌≤◌, ◌==◌, Bool, true, false, nat_lt, zero, suc, List, [], ◌∷◌, length, get_or, refl, sym, arith, zero-add, subst, ◌&&◌}
use Rattle.std.proofs.lemmas.List.FromFn.{fill_by_all}
use Rattle.std.proofs.lemmas.Bool.{false≢true, false_from_ne_true}
use Rattle.std.proofs.lemmas.Bool.Decides.{nat_tests}
use Rattle.std.specs.List.{list_all, list_any}
use Rattle.std.specs.List.Sorted.{IsStrictlyIncreasing}
use Rattle.saga_cert.specs.Kept.{is_increasing, is_kept, marks_of, numbers_from}

both : (p : Bool) {q : Bool} → (p && q) ≡ true → (p ≡ true) × (q ≡ true)
both true test = (refl, test)
both false test = absurd (false≢true test)

below : (a b : ℕ) → a < b → nat_lt a b ≡ true
below a b h = grind (arith, nat_tests)

above : (a b : ℕ) → nat_lt a b ≡ true → a < b
above a b h = grind (arith, nat_tests)

-- the test is true just of lists that increase
pub increasing-true : (ns : List ℕ) → is_increasing ns ≡ true → IsStrictlyIncreasing ns
increasing-true [] test k lt = absurd (omega arith)
increasing-true (a ∷ []) test k lt = absurd (omega arith)
increasing-true (a ∷ b ∷ ns) test zero lt = above a b (both (nat_lt a b) test).0
increasing-true (a ∷ b ∷ ns) test (suc k) lt =
    let next : suc k + 1 ≡ suc (k + 1) = omega arith in
    let rest : get_or (b ∷ ns) k 0 < get_or (b ∷ ns) (k + 1) 0 = increasing-true (b ∷ ns) (both (nat_lt a b) test).1 k (omega arith) in
    rw next rest

pub true-increasing : (ns : List ℕ) → IsStrictlyIncreasing ns → is_increasing ns ≡ true
true-increasing [] h = refl
true-increasing (a ∷ []) h = refl
true-increasing (a ∷ b ∷ ns) h =
    let rest : is_increasing (b ∷ ns) ≡ true = true-increasing (b ∷ ns) (λ k lt.
    let next : suc k + 1 ≡ suc (k + 1) = omega arith in
    let pair : get_or (b ∷ ns) k 0 < get_or (a ∷ b ∷ ns) (suc k + 1) 0 = h (suc k) (omega arith) in
    rw next at pair) in
    rw (below a b (h 0 (omega arith)), rest) refl

pub increasing-false : (ns : List ℕ) → ¬ IsStrictlyIncreasing ns → is_increasing ns ≡ false
increasing-false ns h = false_from_ne_true (is_increasing ns) (λ test. h (increasing-true ns test))

-- as many marks as the count, each true where the numbers have its place
pub record Marked (count : ℕ) (numbers : List ℕ) (marks : List Bool) : Type 0 where
  pub long : length marks ≡ count
  pub each : (k : ℕ) → k < count → get_or marks k false ≡ list_any (λ n. n == k) numbers

-- all numbers are looked at
pub Marked-all : (count : ℕ) (numbers : List ℕ) (marks : List Bool) → Marked count numbers marks → marks ≡ marks_of count numbers
Marked-all count numbers marks m = fill_by_all (λ k. list_any (λ n. n == k) numbers) marks count false m.long m.each

apart : (a b : ℕ) → a < b → (b == a) ≡ false
apart a b h = grind (arith, nat_tests)

apart_from_sum : (m k : ℕ) → (m == m + suc k) ≡ false
apart_from_sum m k = grind (arith, nat_tests)

same_sum : (m : ℕ) → (m == m + 0) ≡ true
same_sum m = grind (arith, nat_tests)

-- the numbers of marks increase
increasing-after : (marks : List Bool) (n m : ℕ) → n < m → is_increasing (n ∷ numbers_from m marks) ≡ true
increasing-after [] n m h = refl
increasing-after (true ∷ marks) n m h = rw (below n m h) (increasing-after marks m (m + 1) (omega arith))
increasing-after (false ∷ marks) n m h = increasing-after marks n (m + 1) (omega arith)

increasing-numbers : (marks : List Bool) (m : ℕ) → is_increasing (numbers_from m marks) ≡ true
increasing-numbers [] m = refl
increasing-numbers (true ∷ marks) m = increasing-after marks m (m + 1) (omega arith)
increasing-numbers (false ∷ marks) m = increasing-numbers marks (m + 1)

-- they are below the number of marks
below-numbers : (marks : List Bool) (m count : ℕ) → m + length marks ≤ count → list_all (λ n. nat_lt n count) (numbers_from m marks) ≡ true
below-numbers [] m count h = refl
below-numbers (true ∷ marks) m count h = rw (below m count (omega arith)) (below-numbers marks (m + 1) count (omega arith))
below-numbers (false ∷ marks) m count h = below-numbers marks (m + 1) count (omega arith)

-- a number below the first one is none of them
absent : (marks : List Bool) (m x : ℕ) → x < m → list_any (λ n. n == x) (numbers_from m marks) ≡ false
absent [] m x h = refl
absent (true ∷ marks) m x h = rw (apart x m h) (absent marks (m + 1) x (omega arith))
absent (false ∷ marks) m x h = absent marks (m + 1) x (omega arith)

mark_later : (marks : List Bool) (m k : ℕ) → get_or marks k false ≡ list_any (λ n. n == m + 1 + k) (numbers_from (m + 1) marks) → get_or marks k false ≡ list_any (λ n. n == m + suc k) (numbers_from (m + 1) marks)
mark_later marks m k h =
    let P : ℕ → Type 0 = λ x. get_or marks k false ≡ list_any (λ n. n == x) (numbers_from (m + 1) marks) in
    let later : m + 1 + k ≡ m + suc k = omega arith in
    subst P later h

-- each mark is true where its number is one of them
mark_at : (marks : List Bool) (m k : ℕ) → get_or marks k false ≡ list_any (λ n. n == m + k) (numbers_from m marks)
mark_at [] m k = refl
mark_at (true ∷ marks) m zero = rw (same_sum m)
mark_at (false ∷ marks) m zero = sym (absent marks (m + 1) (m + 0) (omega arith))
mark_at (true ∷ marks) m (suc k) = rw (apart_from_sum m k) (mark_later marks m k (mark_at marks (m + 1) k))
mark_at (false ∷ marks) m (suc k) = mark_later marks m k (mark_at marks (m + 1) k)

mark_first : (marks : List Bool) (k : ℕ) → get_or marks k false ≡ list_any (λ n. n == 0 + k) (numbers_from 0 marks) → get_or marks k false ≡ list_any (λ n. n == k) (numbers_from 0 marks)
mark_first marks k h =
    let P : ℕ → Type 0 = λ x. get_or marks k false ≡ list_any (λ n. n == x) (numbers_from 0 marks) in
    subst P (zero-add k) h

-- the numbers of marks are a list of kept steps, and stand for those marks
pub is_kept-numbers : (marks : List Bool) → is_kept (length marks) (numbers_from 0 marks) ≡ true
is_kept-numbers marks = rw (increasing-numbers marks 0, below-numbers marks 0 (length marks) (omega arith))

pub marks_of-numbers : (marks : List Bool) → marks_of (length marks) (numbers_from 0 marks) ≡ marks
marks_of-numbers marks =
    sym (fill_by_all (λ k. list_any (λ n. n == k) (numbers_from 0 marks)) marks (length marks) false refl (λ k h. mark_first marks k (mark_at marks 0 k)))
