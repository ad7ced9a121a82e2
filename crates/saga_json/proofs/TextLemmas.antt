-- The values of texts.
use Rattle.std.proofs.Common.{◌≡◌, Bool, true, false, cond, List, Some, None, Ok, Err, refl, ap, ℕ}
use Rattle.std.specs.Str.{IsUtf8, is_utf8}
use Rattle.std.proofs.lemmas.Str.{IsUtf8-from_is_utf8, is_utf8-from_IsUtf8}
use Rattle.serde_json.specs.Data.{Data}
use Rattle.serde_json.specs.Read.{read}
use Rattle.saga_json.specs.declared.faults.JsonFault.TheVariants.{NotJson}
use Rattle.saga_json.specs.Texts.{json_in, json_of}

pub json_of-read : (text : List ℕ) (value : Data) → IsUtf8 text → read text ≡ Some value → json_of text ≡ Ok value
unfolding json_of
json_of-read text value u e = rw (is_utf8-from_IsUtf8 text u) (ap json_in e)

-- a text that is not read is no JSON
pub json_of-none : (text : List ℕ) → (IsUtf8 text → read text ≡ None) → json_of text ≡ Err NotJson
unfolding json_of
json_of-none text none = at_test (is_utf8 text) (λ e. ap json_in (none (IsUtf8-from_is_utf8 text e)))
  where
    at_test : (b : Bool) → (b ≡ true → json_in (read text) ≡ Err NotJson) → cond b (json_in (read text)) (Err NotJson) ≡ Err NotJson
    at_test true h = h refl
    at_test false h = refl
