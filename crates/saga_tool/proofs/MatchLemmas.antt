-- What is read of a row's matches.
use Rattle.std.proofs.Common.{◌≡◌, ◌∙◌, ◌≤◌, ◌⊎◌, inl, inr, ap, ℕ, Bool, true, false, List, [], ◌∷◌, Option, Some, None, refl, sym, arith, ◌&&◌, ◌||◌, ◌++◌, length, drop, zero, suc, bytes_eq, map}
use Rattle.std.proofs.lemmas.List.{append-nil}
use Rattle.std.specs.Prelude.{option_map, unwrap_or, Result, Ok, Err}
use Rattle.std.specs.List.{All}
use Rattle.std.specs.Borrow.{Bor}
use Rattle.std.specs.Str.Parse.{ParsesUnsigned}
use Rattle.std.proofs.lemmas.Slice.Eq.{bytes_eq-Decides}
use Rattle.std.proofs.lemmas.List.Elements.{All-drop, All-get_or}
use Rattle.clap.specs.Walk.{Row, Text, rows_of, one_of}
use Rattle.clap.specs.Words.{first_of}
use Rattle.clap.specs.Matches.{ReadsOne, matched_of, first_value, raw_values}
use Rattle.clap.specs.Values.{IsUnsignedIn}
use Rattle.clap.specs.declared.parser.matches.Found.{Found}
use Rattle.clap.proofs.WalkLemmas.{first_value-rows, raw_values-rows}
use Rattle.saga_tool.specs.declared.forms.Kind.{Kind}
use Rattle.saga_tool.specs.declared.forms.Kind.TheVariants.{File, Optional, Files, Flag, Path, Number}
use Rattle.saga_tool.specs.Forms.{Argument}
use Rattle.saga_tool.specs.Given.{Holds, HoldsBy, IsNumber, files_by, has_number, is_number, number_of, one_or_none}

first_is : (rows : List Row) (kind : Kind) (name : Text) → (kind ≡ File) ⊎ (kind ≡ Optional) → files_by kind name rows ≡ one_or_none (first_of name rows)
first_is rows kind name is = elim is [
  | inl file ↦ ap (λ (k : Kind). files_by k name rows) file
  | inr optional ↦ ap (λ (k : Kind). files_by k name rows) optional
]

-- the file of an argument is its first value
pub file_is : (f : Found) (kind : Kind) (name : Text) (o v : Option (Bor Text)) → (kind ≡ File) ⊎ (kind ≡ Optional) → option_map (λ s. s.now) o ≡ first_value f name → o ≡ v
    → files_by kind name (rows_of f) ≡ one_or_none (option_map (λ s. s.now) v)
file_is f kind name o v is h e = first_is (rows_of f) kind name is
    ∙ ap one_or_none (sym (first_value-rows f name) ∙ (sym h ∙ ap (option_map (λ (s : Bor Text). s.now)) e))

-- further files are all values
pub files_are : (f : Found) (kind : Kind) (name : Text) (o v : Option (Bor (List (Bor Text)))) → kind ≡ Files
    → option_map (λ (s : Bor (List (Bor Text))). map (λ w. w.now) s.now) o ≡ option_map raw_values (matched_of f name) → o ≡ v
    → files_by kind name (rows_of f) ≡ unwrap_or (option_map (λ (s : Bor (List (Bor Text))). map (λ w. w.now) s.now) v) []
files_are f kind name o v is h e = ap (λ (k : Kind). files_by k name (rows_of f)) is
    ∙ ap (λ (t : Option (List Text)). unwrap_or t [])
    (sym (raw_values-rows f name) ∙ (sym h ∙ ap (option_map (λ (s : Bor (List (Bor Text))). map (λ w. w.now) s.now)) e))

here : (rows : List Row) (kind : Kind) (n name : Text) → HoldsBy kind n rows → (is_number kind && bytes_eq n name) ≡ true
    → (t : Text) × (one_of name rows ≡ Some t) × IsUnsignedIn 1 16 t
here rows Number n name holds e = (holds.0, ap (λ (w : Text). one_of w rows) (sym ((bytes_eq-Decides n name).0 e)) ∙ holds.1, holds.2)
here rows File n name holds e = cc
here rows Optional n name holds e = cc
here rows Files n name holds e = cc
here rows Flag n name holds e = cc
here rows Path n name holds e = cc

-- a number that an outline has is there, and in range
pub found_number : (rows : List Row) (name : Text) (args : List Argument) → All (Holds rows) args → has_number name args ≡ true
    → (t : Text) × (one_of name rows ≡ Some t) × IsUnsignedIn 1 16 t
found_number rows name [] all h = cc
found_number rows name (a ∷ more) all h =
    go (is_number a.kind && bytes_eq a.name name) refl h (λ rest. found_number rows name more (All-drop (Holds rows) 1 (a ∷ more) all) rest)
  where
    go : (b : Bool) → (is_number a.kind && bytes_eq a.name name) ≡ b → (b || has_number name more) ≡ true
        → (has_number name more ≡ true → (t : Text) × (one_of name rows ≡ Some t) × IsUnsignedIn 1 16 t)
        → (t : Text) × (one_of name rows ≡ Some t) × IsUnsignedIn 1 16 t
    go true e h rec = here rows a.kind a.name name (All-get_or (Holds rows) (a ∷ more) 0 a (omega arith) all) e
    go false e h rec = rec h

-- reading the text of a number in range gives that number
pub read_number : {E : Type 0} (G : List ℕ → Result ℕ E → Type 0) (t : Text) (r : Option ℕ) → ReadsOne G t r
    → ((u : Text) (x : Result ℕ E) → G u x → ParsesUnsigned 64 10 u x) → IsUnsignedIn 1 16 t
    → (n : ℕ) × (r ≡ Some n) × (n ≡ number_of t) × (1 ≤ n) × (n ≤ 16)
read_number G t (Some v) read only fits =
    let parsed = only t (Ok v) read in
    let same : v ≡ number_of t = parsed.1 in
    (v, refl, same, rw same fits.2, rw same fits.3)
read_number G t None read only fits = absurd (only t (Err read.0) read.1 (fits.0, fits.1))

-- so it is the number of that name
pub is_numbered : (args : List Argument) (rows : List Row) (name : Text) (n : ℕ) (t : Text) → has_number name args ≡ true → one_of name rows ≡ Some t
    → n ≡ number_of t → IsNumber args rows name n
is_numbered args rows name n t has one is = rw (has, one) (ap Some is)

abbrev now_of : List (Bor Text) → List Text
now_of = map (λ s. s.now)

now_append : (xs ys : List (Bor Text)) → now_of (xs ++ ys) ≡ now_of xs ++ now_of ys
now_append [] ys = refl
now_append (x ∷ xs) ys = ap (λ (l : List Text). x.now ∷ l) (now_append xs ys)

-- the texts of a list with one more
pub now_pushed : (xs ys : List (Bor Text)) (x : Bor Text) → ys ≡ xs ++ x ∷ [] → now_of ys ≡ now_of xs ++ x.now ∷ []
now_pushed xs ys x e = ap now_of e ∙ now_append xs (x ∷ [])

drop_none : (xs : List (Bor Text)) (i : ℕ) → length xs ≤ i → drop i xs ≡ []
drop_none [] zero le = refl
drop_none [] (suc i) le = refl
drop_none (x ∷ xs) zero le = absurd (omega (arith, le))
drop_none (x ∷ xs) (suc i) le = drop_none xs i (omega (arith, le))

-- where no path is left to push
pub now_ended : (files before paths : List (Bor Text)) (i : ℕ) → now_of files ++ now_of (drop i paths) ≡ now_of before ++ now_of paths → length paths ≤ i
    → now_of files ≡ now_of before ++ now_of paths
now_ended files before paths i inv le = sym (append-nil (now_of files)) ∙ (ap (λ (l : List (Bor Text)). now_of files ++ now_of l) (sym (drop_none paths i le)) ∙ inv)
