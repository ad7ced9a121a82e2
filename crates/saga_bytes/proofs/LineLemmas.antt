-- How a text is split into lines.
use Rattle.std.proofs.Common.{◌≡◌, ℕ, ◌+◌, ◌<◌, suc, zero, Bool, true, false, cond, List, [], ◌∷◌, ◌++◌, length, take, drop, get_or, refl, arith, ◌==◌, ◌-◌, length-drop}
use Rattle.std.proofs.lemmas.List.{take_all}
use Rattle.std.proofs.lemmas.Bool.Decides.{nat_tests}
use Rattle.std.specs.List.{onto_first}
use Rattle.saga_bytes.specs.Lines.{is_line_feed, lines_of}

-- no line feed stands before this place
abbrev pub NoFeed : List ℕ → ℕ → Type 0
NoFeed text end = (k : ℕ) → k < end → is_line_feed (get_or text k 0) ≡ false

later : (byte : ℕ) (text : List ℕ) (end : ℕ) → NoFeed (byte ∷ text) (suc end) → NoFeed text end
later byte text end h k l = h (suc k) (omega arith)

-- a line ends at the first line feed
pub lines_of-split : (text : List ℕ) (end : ℕ) → end < length text → NoFeed text end → is_line_feed (get_or text end 0) ≡ true
    → lines_of text ≡ take end text ∷ lines_of (drop (suc end) text)
lines_of-split [] end l h f = absurd (omega arith)
lines_of-split (byte ∷ text) zero l h f = rw f
lines_of-split (byte ∷ text) (suc end) l h f =
    let first : is_line_feed byte ≡ false = h 0 (omega arith) in
    rw (first, lines_of-split text end (omega arith) (later byte text end h) f)

-- or at the end
pub lines_of-last : (text : List ℕ) → 0 < length text → NoFeed text (length text) → lines_of text ≡ text ∷ []
lines_of-last [] l h = absurd (omega arith)
lines_of-last (byte ∷ []) l h =
    let first : is_line_feed byte ≡ false = h 0 (omega arith) in
    rw first
lines_of-last (byte ∷ next ∷ text) l h =
    let first : is_line_feed byte ≡ false = h 0 (omega arith) in
    rw (first, lines_of-last (next ∷ text) (omega arith) (later byte (next ∷ text) (length (next ∷ text)) h))

-- no byte is a line feed
abbrev pub has_no_feed : List ℕ → Bool
has_no_feed [] = true
has_no_feed (byte ∷ text) = cond (is_line_feed byte) false (has_no_feed text)

pub has_no_feed-append : (xs ys : List ℕ) → has_no_feed xs ≡ true → has_no_feed ys ≡ true → has_no_feed (xs ++ ys) ≡ true
has_no_feed-append [] ys h k = k
has_no_feed-append (x ∷ xs) ys h k = no_feed_at (is_line_feed x) xs ys h k (has_no_feed-append xs ys)
  where
    no_feed_at : (b : Bool) (xs ys : List ℕ) → cond b false (has_no_feed xs) ≡ true → has_no_feed ys ≡ true → (has_no_feed xs ≡ true → has_no_feed ys ≡ true → has_no_feed (xs ++ ys) ≡ true) → cond b false (has_no_feed (xs ++ ys)) ≡ true
    no_feed_at true xs ys h k more = h
    no_feed_at false xs ys h k more = more h k

-- a line that is followed by a line feed
pub lines_of-line : (line rest : List ℕ) → has_no_feed line ≡ true → lines_of (line ++ 10 ∷ rest) ≡ line ∷ lines_of rest
lines_of-line [] rest h = refl
lines_of-line (byte ∷ line) rest h = line_at (is_line_feed byte) h (lines_of-line line rest)
  where
    line_at : (b : Bool) → cond b false (has_no_feed line) ≡ true → (has_no_feed line ≡ true → lines_of (line ++ 10 ∷ rest) ≡ line ∷ lines_of rest)
        → cond b ([] ∷ lines_of (line ++ 10 ∷ rest)) (onto_first byte (lines_of (line ++ 10 ∷ rest))) ≡ (byte ∷ line) ∷ lines_of rest
    line_at true h more = absurd (let e : false ≡ true = h in cc)
    line_at false h more = rw (more h)

-- the two results of a search for a line feed
pub split_found : (text : List ℕ) (end : ℕ) → end < length text → NoFeed text end → is_line_feed (get_or text end 0) ≡ true
    → lines_of text ≡ take end text ∷ lines_of (take (length text - (end + 1)) (drop (end + 1) text))
split_found text end l h f =
    let next : end + 1 ≡ suc end = omega arith in
    rw (take_all (length text - (end + 1)) (drop (end + 1) text) (omega (arith, length-drop (end + 1) text)), next) (lines_of-split text end l h f)

pub split_missed : (text : List ℕ) → 0 < length text → NoFeed text (length text)
    → lines_of text ≡ text ∷ lines_of (take (length text - length text) (drop (length text) text))
split_missed text l h =
    let none : length text - length text ≡ 0 = omega arith in
    rw none (lines_of-last text l h)

pub nonempty : (n : ℕ) → false ≡ (n == 0) → 0 < n
nonempty n h = grind (arith, nat_tests)
