-- A set of numbers as words of bits, with a summary word that has a bit for each word that is not 0.
use Rattle.std.specs.Prelude.{ℕ, Bool, List, length, map, cond, slice_index, false, ◌==◌, ◌≡◌, ◌<◌, ◌≤◌, ◌*◌, ◌/◌, ◌%◌}
use Rattle.std.specs.List.{range_with_len}
use Rattle.std.specs.Int.{bit_at}

-- whether a number is in the set
abbrev pub bit : List ℕ → ℕ → Bool
bit words i = bit_at (slice_index words (i / 64)) (i % 64) == 1

-- for each number, whether it is in the set
abbrev pub marks : List ℕ → ℕ → List Bool
marks words len = map (bit words) (range_with_len 0 len)

-- the summary bit of a word
abbrev pub summed : ℕ → ℕ
summed word = cond (word == 0) 0 1

pub record IsBitSet (words : List ℕ) (summary len : ℕ) : Type 0 where
  pub room : len ≤ 64 * length words
  pub few : length words ≤ 64
  pub sums : (w : ℕ) → w < length words → bit_at summary w ≡ summed (slice_index words w)
  pub past : (w : ℕ) → length words ≤ w → w < 64 → bit_at summary w ≡ 0
  pub tail : (i : ℕ) → len ≤ i → i < 64 * length words → bit words i ≡ false

-- a word in which one bit is set or cleared
pub record IsPut (word b : ℕ) (on : Bool) (word' : ℕ) : Type 0 where
  pub here : (bit_at word' b == 1) ≡ on
  pub others : (i : ℕ) → i < 64 → (i ≡ b → ⊥) → bit_at word' i ≡ bit_at word i
