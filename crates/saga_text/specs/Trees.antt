-- The tree to which `toml` parses a text, as lists.
use Rattle.std.specs.Prelude.{ℕ, List, [], ◌∷◌, IsUtf8, Some, ◌≡◌}
use Rattle.toml.specs.Data.{Data, Items, no_items, item, Members, no_members, member}
use Rattle.toml.specs.Parse.{parse_document}

-- the items of an array, in order
abbrev pub list_of : Items → List Data
list_of no_items = []
list_of (item value rest) = value ∷ list_of rest

-- the keys of a table
abbrev pub keys_of : Members → List (List ℕ)
keys_of no_members = []
keys_of (member key value rest) = key ∷ keys_of rest

-- the text is UTF-8, and `toml` parses it to this tree
pub record IsTextOf (top : Members) (text : List ℕ) : Type 0 where
  pub utf8 : IsUtf8 text
  pub tree : parse_document text ≡ Some top
