-- The required and the optional keys of an object.
use Rattle.std.specs.Prelude.{ℕ, List, Bool, not, ◌||◌, Result, Ok, Err, if◌then◌else◌, is_some}
use Rattle.std.specs.List.{list_all, list_any}
use Rattle.std.specs.Str.{bytes_eq}
use Rattle.serde_json.specs.Data.{Data}
use Rattle.serde_json.specs.Find.{get}
use Rattle.saga_json.specs.declared.faults.JsonFault.{JsonFault}
use Rattle.saga_json.specs.declared.faults.JsonFault.TheVariants.{UnknownKey, MissingKey}
use Rattle.saga_json.specs.Trees.{keys_of}

-- the key is one of these
abbrev pub is_among : List (List ℕ) → List ℕ → Bool
is_among keys key = list_any (λ k. bytes_eq k key) keys

-- the object has the key
abbrev pub has_key : List ℕ → Data → Bool
has_key key value = is_some (get key value)

-- the object has each of the required keys
abbrev pub has_each : List (List ℕ) → Data → Bool
has_each must value = list_all (λ key. has_key key value) must

-- the key is required or optional
abbrev pub is_known : List (List ℕ) → List (List ℕ) → List ℕ → Bool
is_known must may key = is_among must key || is_among may key

-- the object has no other key
abbrev pub has_only : List (List ℕ) → List (List ℕ) → Data → Bool
has_only must may value = list_all (is_known must may) (keys_of value)

-- no fault, or the first fault of the keys: an unknown key comes before a missing one
unfoldable pub keys_fit : List (List ℕ) → List (List ℕ) → Data → Result (Unit {0}) JsonFault
keys_fit must may value =
    if not (has_only must may value) then Err UnknownKey
    else (if not (has_each must value) then Err MissingKey else Ok (tt {0}))
