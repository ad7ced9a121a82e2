-- Sets of numbers as words, and places in rows.
use Rattle.std.proofs.Common.{ℕ, ◌≡◌, ◌≢◌, ◌<◌, ◌≤◌, ◌+◌, ◌-◌, ◌*◌, ◌/◌, ◌%◌, ◌^◌, ◌∙◌, max, min, List, Bool, true, false, zero, suc, length, get_or, set, replicate, take, drop, refl, sym, ap, inl, inr, arith, w64, bit_or, bit_and, get_or-set_same, get_or-set_other}
use Rattle.std.specs.Prelude.{◌==◌, ◌||◌}
use Rattle.std.specs.Int.{bit_at, bit_not, trailing_zeros}
use Rattle.std.proofs.Math.Bool.{or-false}
use Rattle.std.proofs.Math.Nat.{mul-le-mul_right}
use Rattle.std.proofs.lemmas.Bool.{cases_eq, cases_lt, eq-eqb, eqb-true, false≢true, true≢false}
use Rattle.std.proofs.lemmas.List.{get_or-take, get_or-drop, length-set, get_or_past, length-replicate, get_or-replicate}
use Rattle.std.proofs.lemmas.Nat.{and_le_l}
use Rattle.std.proofs.lemmas.Nat.Bits.{bit_at_or, bit_at_and, bit_at_not, bit_at-lt, bit_at-zero, bit_at_set_same, bit_at_set_other, bit_at_clear_same, bit_at_clear_other, bit_at-trailing_zeros}
use Rattle.saga_closure.specs.Bits.{holds, holds_bit, IsPutBit, IsPut, IsJoined, IsJoinedTwo, place_in, words_for}

-- ---- one word

pub put_on : (word b : ℕ) → b < 64 → IsPutBit word b true (bit_or word (1 * 2 ^ b % 2 ^ 64))
put_on word b lt = record {
  here = eq-eqb _ 1 (bit_at_set_same w64 word b lt);
  others = λ i within ne. ap (λ x. x == 1) (bit_at_set_other w64 word b lt i ne);
}

pub put_off : (word b : ℕ) → b < 64 → IsPutBit word b false (bit_and word (bit_not w64 (1 * 2 ^ b % 2 ^ 64)))
put_off word b lt = record {
  here = ap (λ x. x == 1) (bit_at_clear_same w64 word b lt);
  others = λ i within ne. ap (λ x. x == 1) (bit_at_clear_other w64 word b lt i within ne);
}

-- the greater of two bits is 1 where one of them is
or_bits : (a b : ℕ) → a < 2 → b < 2 → (max a b == 1) ≡ (a == 1 || b == 1)
or_bits zero zero p q = refl
or_bits zero (suc zero) p q = refl
or_bits zero (suc (suc b)) p q = absurd (omega arith)
or_bits (suc zero) zero p q = refl
or_bits (suc zero) (suc zero) p q = refl
or_bits (suc zero) (suc (suc b)) p q = absurd (omega arith)
or_bits (suc (suc a)) b p q = absurd (omega arith)

one_bit : (x : ℕ) → (x == 1) ≡ true → x ≡ 1
one_bit x e = eqb-true x 1 e

-- what is in a word and not in another
pub both_bits : (a m b : ℕ) → m < 2 ^ 64 → b < 64 → holds_bit (bit_and a (bit_not w64 m)) b ≡ true → (holds_bit a b ≡ true) × (holds_bit m b ≡ false)
both_bits a m b small lt held =
    let one : min (bit_at a b) (1 - bit_at m b) ≡ 1 = sym (ap (min (bit_at a b)) (bit_at_not w64 m b small lt)) ∙ sym (bit_at_and a (bit_not w64 m) b) ∙ one_bit _ held in
    let first : bit_at a b ≡ 1 = omega (arith, one, bit_at-lt a b) in
    let second : bit_at m b ≡ 0 = omega (arith, one, bit_at-lt m b) in
    (eq-eqb _ 1 first, ap (λ x. x == 1) second)

pub rest_bits : (a m b : ℕ) → m < 2 ^ 64 → b < 64 → holds_bit a b ≡ true → holds_bit m b ≡ false → holds_bit (bit_and a (bit_not w64 m)) b ≡ true
rest_bits a m b small lt held free =
    let first : bit_at a b ≡ 1 = one_bit _ held in
    let second : bit_at m b ≡ 0 = no_bit (bit_at m b) (bit_at-lt m b) free in
    eq-eqb _ 1 (bit_at_and a (bit_not w64 m) b ∙ ap (min (bit_at a b)) (bit_at_not w64 m b small lt) ∙ omega (arith, first, second))
  where
    no_bit : (x : ℕ) → x < 2 → (x == 1) ≡ false → x ≡ 0
    no_bit zero lt e = refl
    no_bit (suc zero) lt e = absurd (true≢false e)
    no_bit (suc (suc x)) lt e = absurd (omega arith)

-- ---- words

-- a word is put
pub word_put : (words : List ℕ) (i old word : ℕ) (on : Bool) → i < 64 * length words → old ≡ get_or words (i / 64) 0 → IsPutBit old (i % 64) on word → IsPut words i on (set words (i / 64) word)
word_put words i old word on within is put =
    let short : i / 64 < length words = omega arith in
    record {
      sized = length-set words (i / 64) word;
      here = ap (λ w. holds_bit w (i % 64)) (get_or-set_same words (i / 64) word 0 short) ∙ put.here;
      others = λ j apart. elim (cases_eq (j / 64) (i / 64)) [
        | inl e ↦
            let read : get_or (set words (i / 64) word) (j / 64) 0 ≡ word = rw e (get_or-set_same words (i / 64) word 0 short) in
            let same : old ≡ get_or words (j / 64) 0 = rw e is in
            let other : j % 64 ≢ i % 64 = λ q. apart (omega (arith, e, q)) in
            ap (λ w. holds_bit w (j % 64)) read ∙ put.others (j % 64) (omega arith) other ∙ ap (λ w. holds_bit w (j % 64)) same
        | inr ne ↦ ap (λ w. holds_bit w (j % 64)) (get_or-set_other words (i / 64) (j / 64) word 0 ne)
      ];
    }

-- words that are joined one by one
pub joined_words : (old more new : List ℕ) → length new ≡ length old → ((k : ℕ) → k < length more → get_or new k 0 ≡ bit_or (get_or old k 0) (get_or more k 0)) → ((k : ℕ) → length more ≤ k → get_or new k 0 ≡ get_or old k 0) → IsJoined old more new
joined_words old more new sized front rest = record {
  sized = sized;
  either = λ s.
      elim (cases_lt (s / 64) (length more)) [
        | inl lt ↦
            ap (λ w. holds_bit w (s % 64)) (front (s / 64) lt)
            ∙ ap (λ b. b == 1) (bit_at_or (get_or old (s / 64) 0) (get_or more (s / 64) 0) (s % 64))
            ∙ or_bits (bit_at (get_or old (s / 64) 0) (s % 64)) (bit_at (get_or more (s / 64) 0) (s % 64)) (bit_at-lt _ _) (bit_at-lt _ _)
        | inr past ↦
            let none : holds_bit (get_or more (s / 64) 0) (s % 64) ≡ false =
            ap (λ w. holds_bit w (s % 64)) (get_or_past more (s / 64) 0 past) ∙ ap (λ b. b == 1) (bit_at-zero (s % 64)) in
            ap (λ w. holds_bit w (s % 64)) (rest (s / 64) past)
            ∙ sym (or-false (holds_bit (get_or old (s / 64) 0) (s % 64)))
            ∙ ap (λ (b : Bool). holds_bit (get_or old (s / 64) 0) (s % 64) || b) (sym none)
      ];
}

bit_in_or : (x y b : ℕ) → holds_bit (bit_or x y) b ≡ (holds_bit x b || holds_bit y b)
bit_in_or x y b = ap (λ w. w == 1) (bit_at_or x y b) ∙ or_bits (bit_at x b) (bit_at y b) (bit_at-lt _ _) (bit_at-lt _ _)

none_past : (words : List ℕ) (s : ℕ) → length words ≤ s / 64 → holds words s ≡ false
none_past words s past = ap (λ w. holds_bit w (s % 64)) (get_or_past words (s / 64) 0 past) ∙ ap (λ b. b == 1) (bit_at-zero (s % 64))

-- words that are joined two by two
pub joined_two_words : (old one two new : List ℕ) → length new ≡ length old → length one ≡ length old → length two ≡ length old → ((k : ℕ) → k < length old → get_or new k 0 ≡ bit_or (get_or old k 0) (bit_or (get_or one k 0) (get_or two k 0))) → IsJoinedTwo old one two new
joined_two_words old one two new sized sized_one sized_two each = record {
  sized = sized;
  either = λ s.
      elim (cases_lt (s / 64) (length old)) [
        | inl lt ↦
            ap (λ w. holds_bit w (s % 64)) (each (s / 64) lt)
            ∙ bit_in_or (get_or old (s / 64) 0) (bit_or (get_or one (s / 64) 0) (get_or two (s / 64) 0)) (s % 64)
            ∙ ap (λ (b : Bool). holds_bit (get_or old (s / 64) 0) (s % 64) || b) (bit_in_or (get_or one (s / 64) 0) (get_or two (s / 64) 0) (s % 64))
        | inr past ↦ rw (none_past new s (omega (arith, past, sized)), none_past old s past, none_past one s (omega (arith, past, sized_one)), none_past two s (omega (arith, past, sized_two))) refl
      ];
}

-- no number past the words
pub holds_within : (words : List ℕ) (i : ℕ) → holds words i ≡ true → i < 64 * length words
holds_within words i held = elim (cases_lt (i / 64) (length words)) [
  | inl lt ↦ omega (arith, lt)
  | inr past ↦ absurd (false≢true (sym (ap (λ w. holds_bit w (i % 64)) (get_or_past words (i / 64) 0 past) ∙ ap (λ b. b == 1) (bit_at-zero (i % 64))) ∙ held))
]

-- nor any in empty words
pub holds_zeros : (n i : ℕ) → holds (replicate n 0) i ≡ true → ⊥
holds_zeros n i held =
    let inside : i < 64 * length (replicate {A = ℕ} n 0) = holds_within (replicate n 0) i held in
    let read : get_or (replicate n 0) (i / 64) 0 ≡ 0 = get_or-replicate n (i / 64) 0 0 (omega (arith, inside, length-replicate {A = ℕ} n 0)) in
    false≢true (sym (ap (λ w. holds_bit w (i % 64)) read ∙ ap (λ b. b == 1) (bit_at-zero (i % 64))) ∙ held)

-- ---- places in rows

pub row_within : (count width v : ℕ) → v < count → v * width + width ≤ count * width
row_within count width v lt =
    let le : (v + 1) * width ≤ count * width = mul-le-mul_right width (omega arith) in
    omega (arith, le)

-- rows are not many
pub words_few : (count width : ℕ) → count ≤ 1024 → width ≤ 16 → count * width ≤ 16384
words_few count width few narrow = let le : count * width ≤ 1024 * width = mul-le-mul_right width few in omega (arith, le, narrow)

-- rows do not overlap
pub same_row : (width v w a b : ℕ) → a < 64 * width → b < 64 * width → place_in width v a ≡ place_in width w b → (v ≡ w) × (a ≡ b)
same_row width v w a b a_lt b_lt e = elim (cases_lt v w) [
  | inl less ↦ absurd (omega (arith, e, row_within w width v less, a_lt, b_lt))
  | inr le ↦ elim (cases_lt w v) [
    | inl more ↦ absurd (omega (arith, e, row_within v width w more, a_lt, b_lt))
    | inr ge ↦
        let same : v ≡ w = omega (arith, le, ge) in
        (same, omega (arith, ap (λ x. x * width) same, e))
  ]
]

-- the bit that is cleared was set, so the word is less
pub cleared_less : (old b new : ℕ) → b < 64 → holds_bit old b ≡ true → IsPutBit old b false new → new ≤ old → new < old
cleared_less old b new lt held put le = elim (cases_lt new old) [
  | inl less ↦ less
  | inr ge ↦
      let same : new ≡ old = omega (arith, le, ge) in
      absurd (false≢true (sym put.here ∙ ap (λ w. holds_bit w b) same ∙ held))
]

pub cleared_le : (word b : ℕ) (on : Bool) → on ≡ false → bit_and word (bit_not w64 (1 * 2 ^ b % 2 ^ 64)) ≤ word
cleared_le word b on e = and_le_l word _

-- a row of the words
pub row_holds : (words row : List ℕ) (width v u : ℕ) → row ≡ take width (drop (v * width) words) → u < 64 * width → holds row u ≡ holds words (place_in width v u)
row_holds words row width v u is lt =
    let div : place_in width v u / 64 ≡ v * width + u / 64 = omega arith in
    let rem : place_in width v u % 64 ≡ u % 64 = omega arith in
    let read : get_or row (u / 64) 0 ≡ get_or words (v * width + u / 64) 0 =
    ap (λ (xs : List ℕ). get_or xs (u / 64) 0) is ∙ get_or-take width (drop (v * width) words) (u / 64) 0 (omega arith) ∙ get_or-drop (v * width) words (u / 64) 0 in
    rw (div, rem) (ap (λ w. holds_bit w (u % 64)) read)

-- the lowest bit
pub lowest_bit : (word : ℕ) → 0 < word → word < 2 ^ 64 → (trailing_zeros w64 word < 64) × (holds_bit word (trailing_zeros w64 word) ≡ true)
lowest_bit word some small =
    let low = bit_at-trailing_zeros w64 word some small in
    (low.0, eq-eqb _ 1 low.1)

pub no_bits : (b : ℕ) → holds_bit 0 b ≡ true → ⊥
no_bits b held = false≢true (sym (ap (λ x. x == 1) (bit_at-zero b)) ∙ held)

-- so many words have room
pub words_hold : (count width : ℕ) → width ≡ words_for count → count ≤ 64 * width
words_hold count width is = omega (arith, is)
