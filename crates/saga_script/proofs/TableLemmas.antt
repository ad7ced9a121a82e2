-- What a table ending_told after one more line.
use Rattle.std.proofs.Common.{◌≡◌, ◌∙◌, ℕ, ◌<◌, ◌==◌, ◌&&◌, Bool, true, false, cond, nat_eq, List, [], ◌∷◌, Option, Some, None, get_or, refl, ap, sym, arith, String, string_bytes, zero, suc, subst}
use Rattle.std.specs.Prelude.{IfSome}
use Rattle.std.proofs.lemmas.Bool.Decides.{nat_tests}
use Rattle.std.proofs.lemmas.Map.Text.{hash_map_updates_text}
use Rattle.std.proofs.lemmas.Slice.Eq.{bytes_eq-Decides}
use Rattle.std.specs.Global.{Global}
use Rattle.std.specs.HashMap as hash
use Rattle.std.specs.HashMap.{HashMap, get, get_by_text}
use Rattle.std.specs.Str.{bytes_eq}
use Rattle.std.specs.String.{string_eq}
use Rattle.saga_script.specs.declared.endings.Ending.{Ending}
use Rattle.saga_script.specs.declared.endings.Ending.TheVariants.{Done}
use Rattle.saga_script.specs.Endings.{is_attempt, place_of}
use Rattle.saga_script.specs.Questions.{Question, is_same}
use Rattle.saga_script.specs.Table.{key_of, ending_of_row, ending_of_rows, ending_told}

-- equal keys are equal sagas and actions
same_key : (s t : ℕ) (u v : Bool) → nat_eq (key_of s u) (key_of t v) ≡ ((s == t) && is_same u v)
same_key s t true true = grind (arith, nat_tests)
same_key s t true false = grind (arith, nat_tests)
same_key s t false true = grind (arith, nat_tests)
same_key s t false false = grind (arith, nat_tests)

-- the ending of a line stands at the places of its attempts alone
attempt-place : (named : Option ℕ) (asked : ℕ) → IfSome named (λ k. (0 < k) × (k < 10)) → is_attempt named (place_of asked) ≡ is_attempt named asked
attempt-place None asked small = refl
attempt-place (Some k) asked small =
    let some : 0 < k = small.0 in
    let few : k < 10 = small.1 in
    grind (arith, nat_tests)

place_of-within : (t : ℕ) → place_of t < 10
place_of-within t = grind (arith, nat_tests)

equal : (m n : ℕ) → nat_eq m n ≡ true → m ≡ n
equal m n h = grind (arith, nat_tests)

pub found_some : {S : Type 0} (T : HashMap (String Global) (HashMap ℕ (List Ending) S) S) (rows : HashMap ℕ (List Ending) S) (name : List ℕ) → get_by_text T name ≡ Some rows → (k t : ℕ) → ending_of_rows k t (get_by_text T name) ≡ ending_of_row t (get nat_eq rows k)
found_some T rows name e k t = rw e

pub found_none : {S : Type 0} (T : HashMap (String Global) (HashMap ℕ (List Ending) S) S) (rows : HashMap ℕ (List Ending) S) (name : List ℕ) → get_by_text T name ≡ None → rows.entries ≡ [] → (k t : ℕ) → ending_of_rows k t (get_by_text T name) ≡ ending_of_row t (get nat_eq rows k)
found_none T rows name e empty k t = rw (e, empty)

module _ {S : Type 0} (T M N : HashMap (String Global) (HashMap ℕ (List Ending) S) S) (rows0 rows1 : HashMap ℕ (List Ending) S) (row0 row1 : List Ending) (name : List ℕ) (saga : ℕ) (undo : Bool) (attempt : Option ℕ) (ending : Ending)
    (small : IfSome attempt (λ k. (0 < k) × (k < 10)))
    (removed : hash.UpdatesBy string_eq (λ k. bytes_eq name (string_bytes k)) T M None)
    (found : (k t : ℕ) → ending_of_rows k t (get_by_text T name) ≡ ending_of_row t (get nat_eq rows0 k))
    (row : (t : ℕ) → ending_of_row t (get nat_eq rows0 (key_of saga undo)) ≡ get_or row0 (place_of t) Done)
    (written : hash.Updates nat_eq rows0 rows1 (key_of saga undo) (Some row1))
    (changed : (k : ℕ) (d : Ending) → k < 10 → get_or row1 k d ≡ cond (is_attempt attempt k) ending (get_or row0 k d))
    (inserted : hash.UpdatesBy string_eq (λ k. bytes_eq name (string_bytes k)) M N (Some rows1)) where
  at_name : (q : List ℕ) → get_by_text N q ≡ cond (bytes_eq name q) (Some rows1) (get_by_text T q)
  at_name q =
      let h = hash_map_updates_text name M N (Some rows1) inserted q in
      let k = hash_map_updates_text name T M None removed q in
      h ∙ by (bytes_eq name q) k
    where
      by : (b : Bool) → get_by_text M q ≡ cond b None (get_by_text T q) → cond b (Some rows1) (get_by_text M q) ≡ cond b (Some rows1) (get_by_text T q)
      by true k = refl
      by false k = k

  new_row : (t : ℕ) → get_or row1 (place_of t) Done ≡ cond (is_attempt attempt t) ending (get_or row0 (place_of t) Done)
  new_row t =
      changed (place_of t) Done (place_of-within t) ∙ ap (λ (b : Bool). cond b ending (get_or row0 (place_of t) Done)) (attempt-place attempt t small)

  -- at the line's name
  at_key : (k t : ℕ) (b : Bool) → nat_eq (key_of saga undo) k ≡ b → (b ≡ true → key_of saga undo ≡ k)
      → ending_of_row t (get nat_eq rows1 k) ≡ cond (b && is_attempt attempt t) ending (ending_of_row t (get nat_eq rows0 k))
  at_key k t true e same =
      let here = written.0 k in
      ap (ending_of_row t) (rw e at here) ∙ (new_row t ∙ ap (cond (is_attempt attempt t) ending) (sym (row t) ∙ ap (λ j. ending_of_row t (get nat_eq rows0 j)) (same refl)))
  at_key k t false e same =
      let here = written.0 k in
      ap (ending_of_row t) (rw e at here)

  at_rows : (q : Question) (b : Bool) → get_by_text N q.name ≡ cond b (Some rows1) (get_by_text T q.name) → (b ≡ true → name ≡ q.name)
      → ending_of_rows (key_of q.saga q.is_undo) q.attempt (get_by_text N q.name)
      ≡ cond (b && (((saga == q.saga) && is_same undo q.is_undo) && is_attempt attempt q.attempt)) ending (ending_of_rows (key_of q.saga q.is_undo) q.attempt (get_by_text T q.name))
  at_rows q true h same =
      let k = key_of q.saga q.is_undo in
      let t = q.attempt in
      let b = (saga == q.saga) && is_same undo q.is_undo in
      let key : nat_eq (key_of saga undo) k ≡ b = same_key saga q.saga undo q.is_undo in
      ap (ending_of_rows k t) h ∙ (at_key k t b key (λ yes. equal (key_of saga undo) k (key ∙ yes)) ∙ ap (cond (b && is_attempt attempt t) ending) (sym (found k t) ∙ ap (λ n. ending_of_rows k t (get_by_text T n)) (same refl)))
  at_rows q false h same = ap (ending_of_rows (key_of q.saga q.is_undo) q.attempt) h

  pub add_told : (q : Question) → ending_told N q ≡ cond (bytes_eq name q.name && (((saga == q.saga) && is_same undo q.is_undo) && is_attempt attempt q.attempt)) ending (ending_told T q)
  unfolding ending_told
  add_told q = at_rows q (bytes_eq name q.name) (at_name q.name) (bytes_eq-Decides name q.name).0

abbrev dones : ℕ → List Ending
dones zero = []
dones (suc n) = Done ∷ dones n

dones_at : (n k : ℕ) → get_or (dones n) k Done ≡ Done
dones_at zero k = refl
dones_at (suc n) zero = refl
dones_at (suc n) (suc k) = dones_at n k

pub new_row_at : (k : ℕ) → Done ≡ get_or (Done ∷ Done ∷ Done ∷ Done ∷ Done ∷ Done ∷ Done ∷ Done ∷ Done ∷ Done ∷ []) k Done
new_row_at k = sym (dones_at 10 k)

pub inserted_at : {S : Type 0} (M N : HashMap (String Global) (HashMap ℕ (List Ending) S) S) (key : String Global) (name : List ℕ) (w : Option (HashMap ℕ (List Ending) S))
    → string_bytes key ≡ name → hash.Updates string_eq M N key w → hash.UpdatesBy string_eq (λ k. bytes_eq name (string_bytes k)) M N w
inserted_at M N key name w e u = subst (λ n. hash.UpdatesBy string_eq (λ k. bytes_eq n (string_bytes k)) M N w) e u
