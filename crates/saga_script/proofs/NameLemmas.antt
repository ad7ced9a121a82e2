-- Names are ASCII, and the test of a name decides saga_def's rule.
use Rattle.std.proofs.Common.{◌≡◌, ◌<◌, ℕ, Bool, true, false, ◌&&◌, nat_lt, nat_le, List, length, get_or, refl, arith, inl, inr}
use Rattle.std.specs.Prelude.{IsUtf8, slice_index}
use Rattle.std.specs.List.{list_all}
use Rattle.std.proofs.lemmas.Bool.{false≢true, false_from_ne_true, cases_lt}
use Rattle.std.proofs.lemmas.List.{get_or_past}
use Rattle.std.proofs.lemmas.List.Sums.{AllPass-from_list_all, list_all-from_AllPass}
use Rattle.saga_def.specs.Limits.{max_name}
use Rattle.std.proofs.lemmas.Bool.Decides.{nat_tests}
use Rattle.std.proofs.lemmas.Str.{IsUtf8-from_ascii}
use Rattle.saga_def.specs.Rules.{IsName, is_letter, is_name_byte}
use Rattle.saga_script.specs.Statements.{is_name}

both : (p : Bool) {q : Bool} → (p && q) ≡ true → (p ≡ true) × (q ≡ true)
both true test = (refl, test)
both false test = absurd (false≢true test)

-- the bytes of a name are ASCII
ascii : (byte : ℕ) → is_name_byte byte ≡ true → byte < 128
ascii byte test = grind (arith, nat_tests)

pub name-test : (text : List ℕ) → IsName text → is_name text ≡ true
unfolding is_name
name-test text name =
    let some : nat_lt 0 (length text) ≡ true = (let h = name.some in grind (arith, nat_tests)) in
    let short : nat_le (length text) max_name ≡ true = (let h = name.short in grind (arith, nat_tests)) in
    let first : is_letter (slice_index text 0) ≡ true = name.first in
    let bytes : list_all is_name_byte text ≡ true = list_all-from_AllPass is_name_byte text name.bytes in
    rw (some, short, first, bytes) refl

pub test-name : (text : List ℕ) → is_name text ≡ true → IsName text
unfolding is_name
test-name text test =
    let some = both (nat_lt 0 (length text)) test in
    let short = both (nat_le (length text) max_name) some.1 in
    let first = both (is_letter (slice_index text 0)) short.1 in
    let is_some : nat_lt 0 (length text) ≡ true = some.0 in
    let is_short : nat_le (length text) max_name ≡ true = short.0 in
    record {
      some = grind (arith, nat_tests);
      short = grind (arith, nat_tests);
      first = first.0;
      bytes = AllPass-from_list_all is_name_byte text first.1;
    }

pub name-utf8 : (text : List ℕ) → IsName text → IsUtf8 text
name-utf8 text name = IsUtf8-from_ascii text at
  where
    at : (i : ℕ) → slice_index text i < 128
    at i = elim (cases_lt i (length text)) [
      | inl lt ↦ ascii (get_or text i 0) (name.bytes i 0 lt)
      | inr past ↦ (let none : get_or text i 0 ≡ 0 = get_or_past text i 0 past in omega (arith, none))
    ]

pub other-test : (text : List ℕ) → ¬ IsName text → is_name text ≡ false
other-test text other = false_from_ne_true (is_name text) (λ test. other (test-name text test))
