-- The definitions of several texts.
use Rattle.std.specs.Prelude.{ℕ, List, Some, take, slice_get, Ok, Err, ◌≡◌, ◌≢◌}
use Rattle.std.specs.List.{AllZip}
use Rattle.saga_def.specs.Contents.{Contents}
use Rattle.saga_text.specs.declared.faults.TextFault.{TextFault}
use Rattle.saga_text.specs.declared.faults.TextFault.TheVariants as cause
use Rattle.saga_text.specs.Reads.{Reads}
use Rattle.saga_texts.specs.declared.shelves.ShelfFault.{ShelfFault}
use Rattle.saga_texts.specs.declared.shelves.ShelfFault.TheVariants.{Definition, OutOfMemory}

-- each text holds the definition at its index, and there are no others
abbrev pub AreDefinitions : List (List ℕ) → List Contents → Type 0
AreDefinitions texts shelf = AllZip (λ text d. Reads text (Ok d)) texts shelf

-- the text at that index has this first fault, and the texts before it hold definitions
pub record IsFirstFaulty (texts : List (List ℕ)) (place : ℕ) (why : TextFault) : Type 0 where
  pub text : List ℕ
  pub here : slice_get texts place ≡ Some text
  pub fault : Reads text (Err why)
  pub real : why ≢ cause.OutOfMemory
  pub shelf : List Contents
  pub before : AreDefinitions (take place texts) shelf

abbrev pub IsShelfFault : List (List ℕ) → ShelfFault → Type 0
IsShelfFault texts (Definition place why) = IsFirstFaulty texts place why
IsShelfFault texts OutOfMemory = Unit {0}

-- the fault of the text at an index
abbrev pub at_place : ℕ → TextFault → ShelfFault
at_place place cause.OutOfMemory = OutOfMemory
at_place place why = Definition place why
