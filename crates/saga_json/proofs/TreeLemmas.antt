-- The data of a value as lists.
use Rattle.std.proofs.Common.{◌≡◌, ℕ, Bool, ◌&&◌, List, [], ◌∷◌, map, refl, ap, String, Global, string_bytes}
use Rattle.std.specs.List.{list_all}
use Rattle.std.specs.Map.{keys_of as map_keys_of}
use Rattle.serde_json.specs.declared.value.Value.{Value}
use Rattle.serde_json.specs.Data.{Data, item}
use Rattle.serde_json.specs.View.{view, items_view, members_view}
use Rattle.saga_json.specs.Trees.{list_of, items_from, member_keys}

-- the items of an array are the values seen one by one
pub list_of-view : (values : List Value) → list_of (items_view values) ≡ map view values
list_of-view [] = refl
list_of-view (value ∷ values) = ap (λ rest. view value ∷ rest) (list_of-view values)

pub items_from-view : (values : List Value) → items_view values ≡ items_from (map view values)
items_from-view [] = refl
items_from-view (value ∷ values) = ap (item (view value)) (items_from-view values)

pub list_of-items_from : (values : List Data) → list_of (items_from values) ≡ values
list_of-items_from [] = refl
list_of-items_from (value ∷ values) = ap (λ rest. value ∷ rest) (list_of-items_from values)

-- a test of the keys of an object is one of the keys of its map
pub list_all_keys-view : (test : List ℕ → Bool) (entries : List (String Global × Value)) → list_all test (member_keys (members_view entries)) ≡ list_all (λ key. test (string_bytes key)) (map_keys_of entries)
list_all_keys-view test [] = refl
list_all_keys-view test (e ∷ entries) = ap (λ rest. test (string_bytes e.0) && rest) (list_all_keys-view test entries)
