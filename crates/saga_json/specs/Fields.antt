-- The value at a key of an object: texts, whole numbers of 16, 32 and 64 bits, and lists of them.
use Rattle.std.specs.Prelude.{ℕ, ◌^◌, List, nat_lt, Option, Some, None, Result, Ok, Err, if◌then◌else◌, option_and_then}
use Rattle.serde_json.specs.Data.{Data, number, array, unsigned}
use Rattle.serde_json.specs.Find.{get, as_str}
use Rattle.saga_json.specs.declared.faults.JsonFault.{JsonFault}
use Rattle.saga_json.specs.declared.faults.JsonFault.TheVariants.{BadType, MissingKey}
use Rattle.saga_json.specs.Reads.{◌>>=◌, each}
use Rattle.saga_json.specs.Trees.{list_of}

-- the text at a key
abbrev pub text_at : List ℕ → Data → Option (List ℕ)
text_at key value = option_and_then as_str (get key value)

-- the value at a required key
abbrev pub value_in : Option Data → Result Data JsonFault
value_in None = Err MissingKey
value_in (Some value) = Ok value

-- the reading of the value at a key
abbrev pub at_key : {A : Type 0} → (Data → Result A JsonFault) → List ℕ → Data → Result A JsonFault
at_key read key value = do
  found ← value_in (get key value)
  read found

-- a whole number below a limit
abbrev pub below : ℕ → Data → Result ℕ JsonFault
below limit (number (unsigned n)) = if nat_lt n limit then Ok n else Err BadType
below limit _ = Err BadType

abbrev pub u16_of : Data → Result ℕ JsonFault
u16_of = below (2 ^ 16)

abbrev pub u32_of : Data → Result ℕ JsonFault
u32_of = below (2 ^ 32)

-- a whole number, which always has at most 64 bits
abbrev pub u64_of : Data → Result ℕ JsonFault
u64_of (number (unsigned n)) = Ok n
u64_of _ = Err BadType

-- a list
abbrev pub items_of : Data → Result (List Data) JsonFault
items_of (array items) = Ok (list_of items)
items_of _ = Err BadType

-- a list of such values
abbrev pub list_of_each : {A : Type 0} → (Data → Result A JsonFault) → Data → Result (List A) JsonFault
list_of_each read value = do
  items ← items_of value
  each read items
