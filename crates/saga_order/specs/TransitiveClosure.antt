-- The transitive closure of the needs: for each step the set of all steps that precede it.
use Rattle.std.specs.Prelude.{ℕ, List, [], All, Contains, length, slice_index_or, true, ◌≡◌, ◌<◌, ◌≤◌, ◌⊎◌}
use Rattle.saga_def.specs.Order.{Precedes}
use Rattle.saga_order.specs.Shape.{Shape}
use Rattle.saga_order.specs.Rank.{AreRanks}
use Rattle.saga_order.specs.Bits.{holds, words_for}

-- the set with this number, empty past the end
abbrev pub set_at : List (List ℕ) → ℕ → List ℕ
set_at sets i = slice_index_or sets i []

-- each set contains exactly the steps that precede its step
pub record IsTransitiveClosure (shape : Shape) (closure : List (List ℕ)) : Type 0 where
  pub sized : length closure ≡ shape.count
  pub found : (b x : ℕ) → holds (set_at closure b) x ≡ true → Precedes shape.needs x b
  pub all : (b x : ℕ) → b < shape.count → Precedes shape.needs x b → holds (set_at closure b) x ≡ true

-- no set has more capacity than the number of steps requires
abbrev pub AreNarrow : List (List ℕ) → Type 0
AreNarrow closure = All (λ (preceding : List ℕ). length preceding ≤ words_for (length closure)) closure

-- exactly the needed steps, and the steps that precede them
pub record ArePrecedingOver (needed : List ℕ) (closure : List (List ℕ)) (preceding : List ℕ) : Type 0 where
  pub sized : length preceding ≡ words_for (length closure)
  pub found : (x : ℕ) → holds preceding x ≡ true → (a : ℕ) × Contains needed a × ((x ≡ a) ⊎ (holds (set_at closure a) x ≡ true))
  pub direct : (a : ℕ) → Contains needed a → holds preceding a ≡ true
  pub further : (a x : ℕ) → Contains needed a → holds (set_at closure a) x ≡ true → holds preceding x ≡ true

-- the tables of an order
pub record IsOrder (shape : Shape) (rank_list : List ℕ) (closure_list : List (List ℕ)) : Type 0 where
  pub ranks : AreRanks shape rank_list
  pub closure : IsTransitiveClosure shape closure_list
