-- Sets of numbers as words of 64 bits, and rows of such words.
use Rattle.std.specs.Prelude.{ℕ, Bool, List, length, slice_index, true, false, ◌==◌, ◌||◌, ◌≡◌, ◌≢◌, ◌<◌, ◌+◌, ◌*◌, ◌/◌, ◌%◌}
use Rattle.std.specs.Int.{bit_at, div_ceil}

-- whether a word contains a number below 64
abbrev pub holds_bit : ℕ → ℕ → Bool
holds_bit word b = bit_at word b == 1

-- whether the words contain a number
abbrev pub holds : List ℕ → ℕ → Bool
holds words i = holds_bit (slice_index words (i / 64)) (i % 64)

-- a bit of a word is set or cleared
pub record IsPutBit (old b : ℕ) (on : Bool) (new : ℕ) : Type 0 where
  pub here : holds_bit new b ≡ on
  pub others : (i : ℕ) → i < 64 → i ≢ b → holds_bit new i ≡ holds_bit old i

-- the bits of a word that are not in another word
pub record IsWithout (word less new : ℕ) : Type 0 where
  pub only : (b : ℕ) → b < 64 → holds_bit new b ≡ true → (holds_bit word b ≡ true) × (holds_bit less b ≡ false)
  pub rest : (b : ℕ) → b < 64 → holds_bit word b ≡ true → holds_bit less b ≡ false → holds_bit new b ≡ true

-- the number of words for this count of numbers
abbrev pub words_for : ℕ → ℕ
words_for count = div_ceil count 64

-- a number is added or removed
pub record IsPut (old : List ℕ) (i : ℕ) (on : Bool) (new : List ℕ) : Type 0 where
  pub sized : length new ≡ length old
  pub here : holds new i ≡ on
  pub others : (j : ℕ) → j ≢ i → holds new j ≡ holds old j

-- the union of two sets
pub record IsJoined (old more new : List ℕ) : Type 0 where
  pub sized : length new ≡ length old
  pub either : (i : ℕ) → holds new i ≡ (holds old i || holds more i)

-- the union of three sets
pub record IsJoinedTwo (old one two new : List ℕ) : Type 0 where
  pub sized : length new ≡ length old
  pub either : (i : ℕ) → holds new i ≡ (holds old i || (holds one i || holds two i))

-- the index of the bit for u in the row of v, if a row has `width` words
abbrev pub place_in : ℕ → ℕ → ℕ → ℕ
place_in width v u = 64 * (v * width) + u
