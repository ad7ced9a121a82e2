-- Sets of steps as words of 64 bits.
use Rattle.std.specs.Prelude.{ℕ, Bool, List, length, slice_index, true, false, ◌==◌, ◌||◌, ◌≡◌, ◌≢◌, ◌/◌, ◌%◌}
use Rattle.std.specs.Int.{bit_at, div_ceil}

-- whether the words contain a step
abbrev pub holds : List ℕ → ℕ → Bool
holds words s = bit_at (slice_index words (s / 64)) (s % 64) == 1

-- the number of words for this count of steps
abbrev pub words_for : ℕ → ℕ
words_for count = div_ceil count 64

-- the empty set, with capacity for `count` steps
pub record IsEmptyFor (count : ℕ) (words : List ℕ) : Type 0 where
  pub sized : length words ≡ words_for count
  pub empty : (s : ℕ) → holds words s ≡ false

-- the set with one more step
pub record IsWith (old : List ℕ) (step : ℕ) (new : List ℕ) : Type 0 where
  pub sized : length new ≡ length old
  pub same : holds new step ≡ true
  pub others : (s : ℕ) → s ≢ step → holds new s ≡ holds old s

-- the union of two sets
pub record IsJoined (old more new : List ℕ) : Type 0 where
  pub sized : length new ≡ length old
  pub either : (s : ℕ) → holds new s ≡ (holds old s || holds more s)
