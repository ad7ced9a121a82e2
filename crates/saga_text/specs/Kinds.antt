-- The kinds of values at a key: text, cost, count, list.
use Rattle.std.specs.Prelude.{ℕ, List, [], Bool, Option, Some, None, Result, Ok, Err, pos, codes, if◌then◌else◌, is_some}
use Rattle.std.specs.Str.{bytes_eq}
use Rattle.toml.specs.Data.{Data, string, integer, array, Members, get_member}
use Rattle.saga_def.specs.declared.steps.Price.{Price}
use Rattle.saga_def.specs.declared.steps.Price.TheVariants.{Of, Never}
use Rattle.saga_text.specs.declared.faults.TextFault.{TextFault}
use Rattle.saga_text.specs.declared.faults.TextFault.TheVariants.{BadType, MissingKey}
use Rattle.saga_bytes.specs.Readings.{◌>>=◌, each}
use Rattle.saga_text.specs.Trees.{list_of}

-- the table has the key
abbrev pub has_key : List ℕ → Members → Bool
has_key key members = is_some (get_member key members)

-- a text
abbrev pub text_of : Data → Result (List ℕ) TextFault
text_of (string text) = Ok text
text_of _ = Err BadType

-- a required text
abbrev pub name_in : Option Data → Result (List ℕ) TextFault
name_in None = Err MissingKey
name_in (Some value) = text_of value

-- an integer of at least 0, or the text `never`; 0 if missing
abbrev pub price_in : Option Data → Result Price TextFault
price_in None = Ok (Of 0)
price_in (Some (integer (pos amount))) = Ok (Of amount)
price_in (Some (string text)) = if bytes_eq text (codes "never") then Ok Never else Err BadType
price_in _ = Err BadType

-- an integer of at least 0; 1 if missing
abbrev pub count_in : Option Data → Result ℕ TextFault
count_in None = Ok 1
count_in (Some (integer (pos count))) = Ok count
count_in _ = Err BadType

-- a list
abbrev pub items_of : Data → Result (List Data) TextFault
items_of (array items) = Ok (list_of items)
items_of _ = Err BadType

-- a list; empty if missing
abbrev pub list_in : Option Data → Result (List Data) TextFault
list_in None = Ok []
list_in (Some value) = items_of value

-- the value at a key, as each of these kinds
abbrev pub name_at : List ℕ → Members → Result (List ℕ) TextFault
name_at key members = name_in (get_member key members)

abbrev pub price_at : List ℕ → Members → Result Price TextFault
price_at key members = price_in (get_member key members)

abbrev pub count_at : List ℕ → Members → Result ℕ TextFault
count_at key members = count_in (get_member key members)

abbrev pub list_at : List ℕ → Members → Result (List Data) TextFault
list_at key members = list_in (get_member key members)

-- a list of texts; empty if missing
abbrev pub texts_at : List ℕ → Members → Result (List (List ℕ)) TextFault
texts_at key members = do
  items ← list_at key members
  each text_of items
