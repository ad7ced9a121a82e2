-- The value to which `serde_json` parses a text, as lists.
use Rattle.std.specs.Prelude.{ℕ, List, [], ◌∷◌, Bool, true, false}
use Rattle.serde_json.specs.Data.{Data, object, Items, no_items, item, Members, no_members, member}

-- the items of an array, in order
abbrev pub list_of : Items → List Data
list_of no_items = []
list_of (item value rest) = value ∷ list_of rest

-- the array of a list
abbrev pub items_from : List Data → Items
items_from [] = no_items
items_from (value ∷ rest) = item value (items_from rest)

abbrev pub member_keys : Members → List (List ℕ)
member_keys no_members = []
member_keys (member key value rest) = key ∷ member_keys rest

-- the keys of an object
abbrev pub keys_of : Data → List (List ℕ)
keys_of (object entries) = member_keys entries
keys_of _ = []

abbrev pub is_object : Data → Bool
is_object (object entries) = true
is_object _ = false
