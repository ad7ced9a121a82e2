-- The three parts of standard input.
use Rattle.std.specs.Prelude.{ℕ, List, length, take, drop, slice_index, ◌≡◌, ◌<◌, ◌≤◌, ◌+◌, ◌-◌, ◌⊎◌}

-- a line starts at an index: the index is 0, or follows a line feed
abbrev pub BeginsLine : List ℕ → ℕ → Type 0
BeginsLine input at = (at ≡ 0) ⊎ (slice_index input (at - 1) ≡ 10)

-- a line that is exactly three hyphens starts at this index; the last line may lack its line feed
pub record IsSeparator (input : List ℕ) (at : ℕ) : Type 0 where
  pub begins : BeginsLine input at
  pub within : at + 3 ≤ length input
  pub hyphens : (k : ℕ) → k < 3 → slice_index input (at + k) ≡ 45
  pub ends : (length input ≡ at + 3) ⊎ (slice_index input (at + 3) ≡ 10)

-- there is no such line from an index on
abbrev pub HasNoSeparator : List ℕ → ℕ → Type 0
HasNoSeparator input from = (k : ℕ) → from ≤ k → IsSeparator input k → ⊥

-- the first such line from an index on
pub record IsFirstSeparator (input : List ℕ) (from at : ℕ) : Type 0 where
  pub after : from ≤ at
  pub separates : IsSeparator input at
  pub first : (k : ℕ) → from ≤ k → k < at → IsSeparator input k → ⊥

-- the texts before, between and after the first two such lines
pub record AreParts (input definition case answer : List ℕ) : Type 0 where
  pub first : ℕ
  pub second : ℕ
  pub is_first : IsFirstSeparator input 0 first
  pub is_second : IsFirstSeparator input (first + 4) second
  pub before : definition ≡ take first input
  pub between : case ≡ take (second - (first + 4)) (drop (first + 4) input)
  pub after : answer ≡ drop (second + 4) input

-- there are no two such lines
pub record HasNoParts (input : List ℕ) : Type 0 where
  pub none : (first : ℕ) → IsFirstSeparator input 0 first → HasNoSeparator input (first + 4)
