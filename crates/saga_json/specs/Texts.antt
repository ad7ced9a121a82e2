-- The value of a text.
use Rattle.std.specs.Prelude.{ℕ, List, Option, Some, None, Result, Ok, Err, if◌then◌else◌, ◌≡◌, IsUtf8}
use Rattle.std.specs.Str.{is_utf8}
use Rattle.serde_json.specs.Data.{Data}
use Rattle.serde_json.specs.Read.{read}
use Rattle.saga_json.specs.declared.faults.JsonFault.{JsonFault}
use Rattle.saga_json.specs.declared.faults.JsonFault.TheVariants.{NotJson, OutOfMemory}

-- the text is UTF-8, and `serde_json` parses it to this value
pub record IsTextOf (value : Data) (text : List ℕ) : Type 0 where
  pub utf8 : IsUtf8 text
  pub json : read text ≡ Some value

-- the text is not JSON; or lack of memory
abbrev pub IsJsonFault : List ℕ → JsonFault → Type 0
IsJsonFault text NotJson = (value : Data) → IsTextOf value text → ⊥
IsJsonFault text OutOfMemory = Unit {0}
IsJsonFault text _ = ⊥

abbrev pub json_in : Option Data → Result Data JsonFault
json_in None = Err NotJson
json_in (Some value) = Ok value

-- the value of a text
unfoldable pub json_of : List ℕ → Result Data JsonFault
json_of text = if is_utf8 text then json_in (read text) else Err NotJson
