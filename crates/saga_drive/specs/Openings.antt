-- The definition with which a saga is opened, and its number.
use Rattle.std.specs.Prelude.{◌≡◌, ◌≢◌, ℕ, ◌<◌, ◌≤◌, ◌^◌, List, Option, Some, None, length, slice_get}
use Rattle.saga_def.specs.Contents.{Contents}
use Rattle.saga_core.specs.Book.{Book, number, sagas_in}
use Rattle.saga_drive.specs.declared.openings.Wanted.{Wanted}
use Rattle.saga_drive.specs.declared.openings.Wanted.TheVariants.{Index, Name}

-- the definition at that index has that name
abbrev pub HasName : List Contents → List ℕ → ℕ → Type 0
HasName shelf name k = (d : Contents) × (slice_get shelf k ≡ Some d) × (d.name ≡ name)

-- the request selects the definition at that index, which is the first with the name
abbrev pub IsWanted : List Contents → Wanted → ℕ → Type 0
IsWanted shelf (Index j) k = (k ≡ j) × (j < length shelf)
IsWanted shelf (Name name) k = (k < length shelf) × HasName shelf name k × ((j : ℕ) → j < k → HasName shelf name j → ⊥)

-- the shelf does not have the selected definition; indices are 32-bit numbers
abbrev pub NoneIsWanted : List Contents → Wanted → Type 0
NoneIsWanted shelf (Index j) = length shelf ≤ j
NoneIsWanted shelf (Name name) = (j : ℕ) → j < 2 ^ 32 → HasName shelf name j → ⊥

-- the number of the next saga to be opened
abbrev pub next_number : Book → ℕ
next_number book = number book.first book.stride (sagas_in book.history)

-- the request has that number, or no number
abbrev pub IsNext : Option ℕ → Book → Type 0
IsNext None book = Unit {0}
IsNext (Some i) book = i ≡ next_number book

abbrev pub IsNotNext : Option ℕ → Book → Type 0
IsNotNext None book = ⊥
IsNotNext (Some i) book = i ≢ next_number book
