-- Facts about lists, and about the set of each number.
use Rattle.std.proofs.Common.{ℕ, ◌≡◌, ◌<◌, List, [], ◌∷◌, zero, suc, length, get_or, set, replicate, inl, inr, arith, get_or-set_same, get_or-set_other}
use Rattle.std.specs.Prelude.{◌⊎◌, Contains}
use Rattle.std.proofs.lemmas.Bool.{cases_eq, cases_lt}
use Rattle.std.proofs.lemmas.List.{length-replicate, get_or-replicate, get_or_past, get_or_read}
use Rattle.saga_order.specs.TransitiveClosure.{set_at}

-- nothing is in the empty list
pub none_in : {X : Type 0} (x : X) → Contains [] x → ⊥
none_in x has = absurd (let below : has.0 < 0 = has.1 in omega arith)

pub contains_head : {X : Type 0} (y : X) (ys : List X) (x : X) → y ≡ x → Contains (y ∷ ys) x
contains_head y ys x here = (0, omega arith, here)

pub contains_tail : {X : Type 0} (y : X) (ys : List X) (x : X) → Contains ys x → Contains (y ∷ ys) x
contains_tail y ys x (k, below, is) = (suc k, omega arith, is)

pub contains_cases : {X : Type 0} (y : X) (ys : List X) (x : X) → Contains (y ∷ ys) x → (y ≡ x) ⊎ Contains ys x
contains_cases y ys x (zero, below, is) = inl is
contains_cases y ys x (suc k, below, is) = inr (k, omega arith, is)

-- a number is in a list or is not
pub contains_or_not : (xs : List ℕ) (x : ℕ) → Contains xs x ⊎ (Contains xs x → ⊥)
contains_or_not [] x = inr (none_in x)
contains_or_not (y ∷ ys) x =
    elim (cases_eq y x) [
      | inl e ↦ inl (contains_head y ys x e)
      | inr ne ↦
          elim (contains_or_not ys x) [
            | inl has ↦ inl (contains_tail y ys x has)
            | inr absent ↦ inr (λ has. elim (contains_cases y ys x has) [ inl e ↦ ne e | inr in_tail ↦ absent in_tail ])
          ]
    ]

-- ---- the set of a number

pub set_at-replicate : (count i : ℕ) → set_at (replicate count []) i ≡ []
set_at-replicate count i =
    elim (cases_lt i count) [
      | inl lt ↦ get_or-replicate count i [] [] lt
      | inr past ↦ get_or_past (replicate count []) i [] (rw length-replicate past)
    ]

pub set_at-read : (lists : List (List ℕ)) (i : ℕ) (list : List ℕ) → i < length lists → list ≡ get_or lists i list → list ≡ set_at lists i
set_at-read lists i list below read = get_or_read lists i list below read []

pub set_at-set_cases : (lists : List (List ℕ)) (i : ℕ) (list : List ℕ) → i < length lists → (a : ℕ) → ((a ≡ i) × (set_at (set lists i list) a ≡ list)) ⊎ ((a ≡ i → ⊥) × (set_at (set lists i list) a ≡ set_at lists a))
set_at-set_cases lists i list below a =
    elim (cases_eq a i) [
      | inl e ↦ inl (e, rw e (get_or-set_same lists i list [] below))
      | inr ne ↦ inr (ne, get_or-set_other lists i a list [] ne)
    ]
