-- The definitions of a file, one further; and those that are stored beside those that are given.
use Rattle.std.proofs.Common.{◌≡◌, ◌∙◌, ℕ, zero, suc, ◌<◌, ◌≤◌, ◌+◌, ◌^◌, List, [], ◌∷◌, ◌++◌, length, length-append, map, take, drop, get_or, ap, sym, subst, refl, arith, inl, inr}
use Rattle.std.specs.Prelude.{slice_get, Option, Some, None, codes, decimal}
use Rattle.std.specs.Str.Parse.{AllDigits}
use Rattle.std.proofs.lemmas.Bool.{cases_order, eqb-true}
use Rattle.std.proofs.lemmas.Fmt.{decimal_is_IsNumeral, decimal_injective}
use Rattle.std.proofs.lemmas.Str.Parse.{digit_from_value}
use Rattle.std.proofs.lemmas.List.{get_or_append_left, append_cancel_left}
use Rattle.std.proofs.Math.Seq.{get_or-append_seam, take-append_seam, drop-append_seam}
use Rattle.memchr.specs.Find.{IsFirstByte, is_byte}
use Rattle.std.specs.Borrow.{Bor}
use Rattle.std.proofs.lemmas.List.{append_assoc, length-map, take_more, flat_map_more, map-append}
use Rattle.std.proofs.lemmas.Option.{get_or_from_slice_get, slice_get_within, slice_get-get_or}
use Rattle.saga_texts.specs.Beside.{HoldsNone, IsFirstOther, definitions_file, framed, head_line}
use Rattle.saga_texts.specs.Lines.{line_feed}
use Rattle.saga_texts.proofs.ListLemmas.{text_here}

abbrev now_of : List (Bor (List ℕ)) → List (List ℕ)
now_of = map (λ s. s.now)

-- ---- the number before a space

-- no digit is a space
no_space : (ds : List ℕ) → AllDigits 10 ds → (k : ℕ) → k < length ds → get_or ds k 0 ≡ 32 → ⊥
no_space [] are k lt is = absurd (omega (arith, lt))
no_space (c ∷ cs) are zero lt is = absurd (let d = digit_from_value c are.0 in omega (arith, d.0, is))
no_space (c ∷ cs) are (suc k) lt is = no_space cs are.1 k (omega (arith, lt)) is

all_digits : (n : ℕ) → n < 2 ^ 64 → AllDigits 10 (decimal n)
all_digits n small = (decimal_is_IsNumeral n small).0.1

-- the first space is the one behind the number
pub space_behind : (n : ℕ) (more text : List ℕ) (found : Option ℕ) → n < 2 ^ 64 → text ≡ decimal n ++ 32 ∷ more → IsFirstByte (is_byte 32) text found
    → found ≡ Some (length (decimal n))
space_behind n more text found small is first = by found (subst (λ (l : List ℕ). IsFirstByte (is_byte 32) l found) is first)
  where
    ds : List ℕ
    ds = decimal n

    hay : List ℕ
    hay = ds ++ 32 ∷ more

    long : length ds < length hay
    long = omega (arith, length-append ds (32 ∷ more))

    here : get_or hay (length ds) 0 ≡ 32
    here = get_or-append_seam ds 32 more 0

    by : (r : Option ℕ) → IsFirstByte (is_byte 32) hay r → r ≡ Some (length ds)
    by None none = absurd (none (length ds) (omega arith) long (ap (is_byte 32) here))
    by (Some k) (place, passes) = elim (cases_order k (length ds)) [
      | inl e ↦ ap (λ (m : ℕ). Some m) e
      | inr other ↦ elim other [
        | inl less ↦ absurd (no_space ds (all_digits n small) k less (sym (get_or_append_left ds (32 ∷ more) 0 k less) ∙ eqb-true (get_or hay k 0) 32 passes))
        | inr more ↦ absurd (place.before (length ds) (omega arith) more (ap (is_byte 32) here))
      ]
    ]

-- what stands before it is the number
pub number_before : (n end : ℕ) (more text : List ℕ) → n < 2 ^ 64 → text ≡ decimal n ++ 32 ∷ more → IsFirstByte (is_byte 32) text (Some end)
    → take end text ≡ decimal n
number_before n end more text small is first =
    let at : Some end ≡ Some (length (decimal n)) = space_behind n more text (Some end) small is first in
    let same : end ≡ length (decimal n) = cc in
    ap (λ (k : ℕ). take k text) same ∙ (ap (take (length (decimal n))) is ∙ take-append_seam (decimal n) (32 ∷ more))

-- ---- the file, one definition further

-- the parts of a file, from the first on
in_turn : (a b c d e t f more : List ℕ) → ((((((a ++ b) ++ c) ++ d) ++ e) ++ t) ++ f) ++ more ≡ a ++ (b ++ (c ++ (d ++ (e ++ (t ++ (f ++ more))))))
in_turn a b c d e t f more =
    append_assoc (((((a ++ b) ++ c) ++ d) ++ e) ++ t) f more
    ∙ (append_assoc ((((a ++ b) ++ c) ++ d) ++ e) t (f ++ more)
    ∙ (append_assoc (((a ++ b) ++ c) ++ d) e (t ++ (f ++ more))
    ∙ (append_assoc ((a ++ b) ++ c) d (e ++ (t ++ (f ++ more)))
    ∙ (append_assoc (a ++ b) c (d ++ (e ++ (t ++ (f ++ more)))) ∙ append_assoc a b (c ++ (d ++ (e ++ (t ++ (f ++ more)))))))))

-- what stands behind the start of the line before a definition
abbrev behind_start : List ℕ → List ℕ → List ℕ
behind_start text more = decimal (length text) ++ 32 ∷ (codes "bytes" ++ (line_feed ++ (text ++ (line_feed ++ more))))

pub framed_begins : (text more : List ℕ) → framed text ++ more ≡ codes "definition of " ++ behind_start text more
framed_begins text more = in_turn (codes "definition of ") (decimal (length text)) (codes " ") (codes "bytes") line_feed text line_feed more

pub number_in : (file text more : List ℕ) → file ≡ framed text ++ more → drop 14 file ≡ decimal (length text) ++ 32 ∷ (codes "bytes" ++ (line_feed ++ (text ++ (line_feed ++ more))))
number_in file text more is = ap (drop 14) (is ∙ framed_begins text more)

-- what stands behind that line
pub line_parts : (file head text more : List ℕ) → file ≡ framed text ++ more → head ≡ head_line (length text) → file ≡ head ++ (text ++ (line_feed ++ more))
line_parts file head text more is head_is =
    is ∙ (append_assoc (head_line (length text) ++ text) line_feed more ∙ append_assoc (head_line (length text)) text (line_feed ++ more))
    ∙ ap (λ (h : List ℕ). h ++ (text ++ (line_feed ++ more))) (sym head_is)

pub line_front : (file head text more : List ℕ) → file ≡ framed text ++ more → head ≡ head_line (length text) → take (length head) file ≡ head
line_front file head text more is head_is =
    ap (take (length head)) (line_parts file head text more is head_is) ∙ take-append_seam head (text ++ (line_feed ++ more))

pub line_back : (file head text more : List ℕ) → file ≡ framed text ++ more → head ≡ head_line (length text) → drop (length head) file ≡ text ++ (line_feed ++ more)
line_back file head text more is head_is =
    ap (drop (length head)) (line_parts file head text more is head_is) ∙ drop-append_seam head (text ++ (line_feed ++ more))

pub counted : (found : Option ℕ) (k n : ℕ) → found ≡ Some k → found ≡ Some n → k ≡ n
counted found k n one other = cc

pub text_fits : (file text more : List ℕ) → file ≡ framed text ++ more → length text < length file
text_fits file text more is =
    let head = head_line (length text) in
    omega (arith, ap length (line_parts file head text more is refl), length-append head (text ++ (line_feed ++ more)), length-append text (line_feed ++ more), length-append line_feed more)

-- a file that begins with a line, a text and a line feed
pub first_framed : (file head from text rest more : List ℕ) → file ≡ head ++ from → head ≡ head_line (length text) → from ≡ text ++ rest → rest ≡ line_feed ++ more
    → file ≡ framed text ++ more
first_framed file head from text rest more file_is head_is from_is rest_is =
    let line = head_line (length text) in
    let begins : file ≡ head ++ (text ++ (line_feed ++ more)) = file_is ∙ ap (λ (l : List ℕ). head ++ l) (from_is ∙ ap (λ (l : List ℕ). text ++ l) rest_is) in
    let lined : file ≡ line ++ (text ++ (line_feed ++ more)) = begins ∙ ap (λ (h : List ℕ). h ++ (text ++ (line_feed ++ more))) head_is in
    lined ∙ sym (append_assoc (line ++ text) line_feed more ∙ append_assoc line text (line_feed ++ more))

-- one definition more is read
one_read : (file left text more : List ℕ) (texts : List (List ℕ)) → file ≡ definitions_file texts ++ left → left ≡ framed text ++ more
    → file ≡ definitions_file (texts ++ text ∷ []) ++ more
one_read file left text more texts read begins =
    read ∙ (ap (λ (l : List ℕ). definitions_file texts ++ l) begins
    ∙ (sym (append_assoc (definitions_file texts) (framed text) more)
    ∙ ap (λ (l : List ℕ). l ++ more) (flat_map_more framed [] texts text)))

pub one_more : (file left more : List ℕ) (olds news : List (Bor (List ℕ))) (t : Bor (List ℕ)) → news ≡ olds ++ t ∷ [] → file ≡ definitions_file (now_of olds) ++ left
    → left ≡ framed t.now ++ more → file ≡ definitions_file (now_of news) ++ more
one_more file left more olds news t is read begins =
    one_read file left t.now more (now_of olds) read begins
    ∙ ap (λ (l : List (List ℕ)). definitions_file l ++ more) (sym (ap now_of is ∙ map-append (λ (s : Bor (List ℕ)). s.now) olds (t ∷ [])))

-- ---- a file that has no definitions

same_digits : (ds es xs ys : List ℕ) → AllDigits 10 ds → AllDigits 10 es → ds ++ 32 ∷ xs ≡ es ++ 32 ∷ ys → (ds ≡ es) × (xs ≡ ys)
same_digits [] [] xs ys one other same = (refl, (let e : xs ≡ ys = cc in e))
same_digits [] (e ∷ es) xs ys one other same = absurd (let h : e ≡ 32 = cc in no_space (e ∷ es) other 0 (omega arith) h)
same_digits (d ∷ ds) [] xs ys one other same = absurd (let h : d ≡ 32 = cc in no_space (d ∷ ds) one 0 (omega arith) h)
same_digits (d ∷ ds) (e ∷ es) xs ys one other same =
    let h : d ≡ e = cc in
    let t : ds ++ 32 ∷ xs ≡ es ++ 32 ∷ ys = cc in
    let rest = same_digits ds es xs ys one.1 other.1 t in
    (ap (λ (k : ℕ). k ∷ ds) h ∙ ap (λ (l : List ℕ). e ∷ l) rest.0, rest.1)

-- two files that begin with a definition each begin with the same one, and go on alike
framed_once : (one other xs ys : List ℕ) → length (framed one ++ xs) < 2 ^ 64 → framed one ++ xs ≡ framed other ++ ys → (one ≡ other) × (xs ≡ ys)
framed_once one other xs ys small same =
    let one_fits : length one < 2 ^ 64 = omega (arith, small, text_fits (framed one ++ xs) one xs refl) in
    let other_fits : length other < 2 ^ 64 = omega (arith, small, text_fits (framed one ++ xs) other ys same) in
    let digits = same_digits (decimal (length one)) (decimal (length other)) _ _ (all_digits (length one) one_fits) (all_digits (length other) other_fits)
    (sym (number_in (framed one ++ xs) one xs refl) ∙ number_in (framed one ++ xs) other ys same) in
    let lengths = decimal_injective (length one) (length other) one_fits other_fits digits.0 in
    let rest : one ++ (line_feed ++ xs) ≡ other ++ (line_feed ++ ys) =
    append_cancel_left line_feed _ _ (append_cancel_left (codes "bytes") _ _ digits.1) in (
      sym (take-append_seam one (line_feed ++ xs)) ∙ (ap (λ (k : ℕ). take k (one ++ (line_feed ++ xs))) lengths ∙ (ap (take (length other)) rest ∙ take-append_seam other (line_feed ++ ys))),
      append_cancel_left line_feed xs ys
          (sym (drop-append_seam one (line_feed ++ xs)) ∙ (ap (λ (k : ℕ). drop k (one ++ (line_feed ++ xs))) lengths ∙ (ap (drop (length other)) rest ∙ drop-append_seam other (line_feed ++ ys)))),
    )

-- definitions with something behind them that begins with none
runs_out : (read texts : List (List ℕ)) (left : List ℕ) → length (definitions_file read ++ left) < 2 ^ 64 → definitions_file read ++ left ≡ definitions_file texts → 0 < length left
    → ((text more : List ℕ) → left ≡ framed text ++ more → ⊥) → ⊥
runs_out [] [] left small same some none = absurd (omega (arith, ap length same, some))
runs_out [] (t ∷ texts) left small same some none = none t (definitions_file texts) same
runs_out (r ∷ read) [] left small same some none =
    absurd (omega (arith, ap length same, length-append (framed r ++ definitions_file read) left, some))
runs_out (r ∷ read) (t ∷ texts) left small same some none =
    let begins : framed r ++ (definitions_file read ++ left) ≡ framed t ++ definitions_file texts = sym (append_assoc (framed r) (definitions_file read) left) ∙ same in
    let whole : length (framed r ++ (definitions_file read ++ left)) < 2 ^ 64 = omega (arith, small, ap length (append_assoc (framed r) (definitions_file read) left)) in
    runs_out read texts left (omega (arith, whole, length-append (framed r) (definitions_file read ++ left)))
    (framed_once r t (definitions_file read ++ left) (definitions_file texts) whole begins).1 some none

pub holds_none : (file left : List ℕ) (read : List (Bor (List ℕ))) → length file < 2 ^ 64 → file ≡ definitions_file (now_of read) ++ left → 0 < length left
    → ((text more : List ℕ) → left ≡ framed text ++ more → ⊥) → HoldsNone file
holds_none file left read small is some none texts holds =
    runs_out (now_of read) texts left (omega (arith, small, ap length is)) (sym is ∙ holds.file_is) some none

pub empty_holds_none : (file : List ℕ) → length file ≡ 0 → HoldsNone file
empty_holds_none file none [] holds = absurd (omega (arith, holds.some))
empty_holds_none file none (t ∷ texts) holds =
    absurd (omega (arith, none, ap length holds.file_is, text_fits (framed t ++ definitions_file texts) t (definitions_file texts) refl))

-- a file that is not empty has one at least
pub some_read : (file : List ℕ) (texts : List (List ℕ)) → 0 < length file → file ≡ definitions_file texts → 0 < length texts
some_read file [] some is = absurd (omega (arith, some, ap length is))
some_read file (t ∷ texts) some is = omega arith

-- ---- those that are stored, and those that are given

more_is : (texts : List (Bor (List ℕ))) (i : ℕ) (d : Bor (List ℕ)) → i < length texts → take (i + 1) (now_of texts) ≡ take i (now_of texts) ++ (get_or texts i d).now ∷ []
more_is texts i d lt =
    let x = (get_or texts i d).now in
    let here = text_here texts i d lt in
    take_more (now_of texts) i x (slice_get_within (now_of texts) i x here) ∙ ap (λ z. take i (now_of texts) ++ z ∷ []) (get_or_from_slice_get (now_of texts) i x x here)

-- one more is the same
pub same_more : (stored given : List (Bor (List ℕ))) (i : ℕ) (d e : Bor (List ℕ)) → i < length stored → i < length given → take i (now_of stored) ≡ take i (now_of given)
    → (get_or stored i d).now ≡ (get_or given i e).now → take (i + 1) (now_of stored) ≡ take (i + 1) (now_of given)
same_more stored given i d e stored_lt given_lt same is =
    more_is stored i d stored_lt
    ∙ (ap (λ (l : List (List ℕ)). l ++ (get_or stored i d).now ∷ []) same
    ∙ (ap (λ (x : List ℕ). take i (now_of given) ++ x ∷ []) is ∙ sym (more_is given i e given_lt)))

differs : (xs ys : List (List ℕ)) (i : ℕ) → i < length xs → length ys ≤ i → slice_get xs i ≡ slice_get ys i → ⊥
differs [] ys i lt le same = absurd (omega (arith, lt))
differs (a ∷ xs) ys i lt le same =
    let x = get_or (a ∷ xs) i a in
    absurd (omega (arith, le, slice_get_within ys i x (sym same ∙ slice_get-get_or (a ∷ xs) i a lt)))

-- one more is stored than is given
pub one_less : (stored given : List (Bor (List ℕ))) (i : ℕ) → i ≡ length given → take i (now_of stored) ≡ take i (now_of given) → length given < length stored
    → IsFirstOther (now_of stored) (now_of given) (length given)
one_less stored given i is same lt = record {
  before = subst (λ (n : ℕ). take n (now_of stored) ≡ take n (now_of given)) is same;
  other = differs (now_of stored) (now_of given) (length given) (omega (arith, lt, length-map stored (λ (s : Bor (List ℕ)). s.now))) (omega (arith, length-map given (λ (s : Bor (List ℕ)). s.now)));
}
