-- What holds of words of bits.
use Rattle.std.proofs.Common.{ℕ, ◌≡◌, ◌<◌, ◌≤◌, ◌+◌, ◌*◌, ◌/◌, ◌%◌, ◌^◌, ◌∙◌, inl, inr, List, [], ◌∷◌, ◌++◌, length, get_or, set, replicate, ap, sym, refl, arith, w64}
use Rattle.std.specs.Prelude.{Bool, true, false, not, ◌==◌, cond}
use Rattle.std.specs.Int.{bit_at, bit_not, trailing_zeros}
use Rattle.std.specs.Int.RustNames.{bit_or}
use lib.Bits.{bit_and}
use Rattle.std.proofs.lemmas.Bool.{cases_eq, cases_lt, eq-eqb, eqb-true, false≢true, ne_eqb}
use Rattle.std.proofs.lemmas.Bool.Decides.{nat_tests}
use Rattle.std.proofs.lemmas.List.{length-set, get_or-set_same, get_or-set_other, same_lists, length-replicate, get_or-replicate, get_or_past, length_push, get_or_push, get_or_append_left}
use Rattle.std.proofs.lemmas.List.FromFn.{map-range_with_len_more, length-map-range_with_len, get_or-map-range_with_len}
use Rattle.std.proofs.lemmas.Nat.Bits.{bit_at-lt, bit_at-zero, bit_at_set_same, bit_at_set_other, bit_at_clear_same, bit_at_clear_other, bit_at-trailing_zeros}
use Rattle.saga_rows.specs.BitSet.{bit, marks, summed, IsBitSet, IsPut}

pub marks_at : (words : List ℕ) (len i : ℕ) (d : Bool) → i < len → get_or (marks words len) i d ≡ bit words i
marks_at words len i d lt = get_or-map-range_with_len (bit words) 0 len i i d lt (omega arith)

pub marks_long : (words : List ℕ) (len : ℕ) → length (marks words len) ≡ len
marks_long words len = length-map-range_with_len (bit words) 0 len

-- one bit is put
set_marks : (words words' : List ℕ) (len i : ℕ) (on : Bool) → i < len → bit words' i ≡ on → ((j : ℕ) → j < len → (j ≡ i → ⊥) → bit words' j ≡ bit words j) → marks words' len ≡ set (marks words len) i on
set_marks words words' len i on lt here others = same_lists (marks words' len) (set (marks words len) i on)
    (marks_long words' len ∙ sym (length-set (marks words len) i on ∙ marks_long words len))
    (λ k d within.
    let kl : k < len = rw (marks_long words' len) at within in
    elim (cases_eq k i) [
      | inl e ↦ rw e (marks_at words' len i d lt ∙ here ∙ sym (get_or-set_same (marks words len) i on d (omega (arith, marks_long words len))))
      | inr ne ↦ marks_at words' len k d kl ∙ others k kl ne ∙ sym (get_or-set_other (marks words len) i k on d ne ∙ marks_at words len k d kl)
    ])

pub put_on : (word b : ℕ) → b < 64 → IsPut word b true (bit_or word (1 * 2 ^ b % 2 ^ 64))
put_on word b lt = record {
  here = eq-eqb _ 1 (bit_at_set_same w64 word b lt);
  others = λ i within ne. bit_at_set_other w64 word b lt i ne;
}

pub put_off : (word b : ℕ) → b < 64 → IsPut word b false (bit_and word (bit_not w64 (1 * 2 ^ b % 2 ^ 64)))
put_off word b lt = record {
  here = ap (λ x. x == 1) (bit_at_clear_same w64 word b lt);
  others = λ i within ne. bit_at_clear_other w64 word b lt i within ne;
}

one_bit : (x : ℕ) → x < 2 → (x == 1) ≡ true → x ≡ 1
one_bit x lt e = eqb-true x 1 e

no_bit : (x : ℕ) → x < 2 → (x == 1) ≡ false → x ≡ 0
no_bit x lt e = grind (arith, nat_tests)

-- a word is put, and the summary with it
pub all_put : (words : List ℕ) (summary summary' len i word : ℕ) (on mark : Bool) → i < len → i < 64 * length words → length words ≤ 64 → IsPut (get_or words (i / 64) 0) (i % 64) on word → IsPut summary (i / 64) mark summary' → summed word ≡ cond mark 1 0 → IsBitSet words summary len → IsBitSet (set words (i / 64) word) summary' len × (marks (set words (i / 64) word) len ≡ set (marks words len) i on)
all_put words summary summary' len i word on mark below inside few put put' same are =
    let w : ℕ = i / 64 in
    let b : ℕ = i % 64 in
    let within : w < length words = omega arith in
    let small : w < 64 = omega arith in
    let long : length (set words w word) ≡ length words = length-set words w word in
    let word_is : get_or (set words w word) w 0 ≡ word = get_or-set_same words w word 0 within in
    let here : bit (set words w word) i ≡ on = ap (λ x. bit_at x b == 1) word_is ∙ put.here in
    let others : (j : ℕ) → (j ≡ i → ⊥) → bit (set words w word) j ≡ bit words j = λ j ne. elim (cases_eq (j / 64) w) [
      | inl e ↦
          let apart : j % 64 ≡ b → ⊥ = λ f. ne (omega (arith, e, f)) in
          let read : get_or (set words w word) (j / 64) 0 ≡ word = rw e word_is in
          let old : get_or words (j / 64) 0 ≡ get_or words w 0 = ap (λ k. get_or words k 0) e in
          ap (λ x. bit_at x (j % 64) == 1) read ∙ ap (λ x. x == 1) (put.others (j % 64) (omega arith) apart) ∙ ap (λ x. bit_at x (j % 64) == 1) (sym old)
      | inr apart ↦ ap (λ x. bit_at x (j % 64) == 1) (get_or-set_other words w (j / 64) word 0 apart)
    ] in
    let mark_is : bit_at summary' w ≡ cond mark 1 0 = marked mark (bit_at summary' w) (bit_at-lt summary' w) put'.here in (
      record {
        room = omega (arith, are.room, long);
        few = omega (arith, long);
        sums = λ v lt. elim (cases_eq v w) [
          | inl e ↦ rw (e, word_is, same) mark_is
          | inr ne ↦ put'.others v (omega (arith, long)) ne ∙ are.sums v (omega (arith, long)) ∙ sym (ap summed (get_or-set_other words w v word 0 ne))
        ];
        past = λ v le lt. put'.others v lt (λ e. absurd (omega (arith, long, e))) ∙ are.past v (omega (arith, long)) lt;
        tail = λ j le lt. others j (λ e. absurd (omega (arith, e))) ∙ are.tail j le (omega (arith, long));
      },
      set_marks words (set words w word) len i on below here (λ j lt ne. others j ne),
    )
  where
    marked : (mark : Bool) (x : ℕ) → x < 2 → (x == 1) ≡ mark → x ≡ cond mark 1 0
    marked true x lt e = eqb-true x 1 e
    marked false x lt e = no_bit x lt e

-- a word that is 0 has no bit
bit_zero : (words : List ℕ) (i : ℕ) → get_or words (i / 64) 0 ≡ 0 → bit words i ≡ false
bit_zero words i e = ap (λ x. x == 1) (ap (λ x. bit_at x (i % 64)) e ∙ bit_at-zero (i % 64))

summed_zero : (word : ℕ) → summed word ≡ 0 → word ≡ 0
summed_zero word h = elim (cases_eq word 0) [
  | inl e ↦ e
  | inr ne ↦ let one : summed word ≡ 1 = ap (λ b. cond b 0 1) (ne_eqb word 0 ne) in absurd (omega (arith, h, one))
]

some_word : (word : ℕ) → summed word ≡ 1 → 0 < word
some_word word h = elim (cases_eq word 0) [
  | inl e ↦ let none : summed word ≡ 0 = ap (λ b. cond b 0 1) (eq-eqb word 0 e) in absurd (omega (arith, h, none))
  | inr ne ↦ omega arith
]

-- without a bit in the summary there is none
pub none_least : (words : List ℕ) (summary len : ℕ) → summary ≡ 0 → IsBitSet words summary len → (i : ℕ) → i < len → get_or (marks words len) i false ≡ false
none_least words summary len is are i lt =
    let within : i / 64 < length words = omega (arith, are.room) in
    let none : bit_at summary (i / 64) ≡ 0 = ap (λ x. bit_at x (i / 64)) is ∙ bit_at-zero (i / 64) in
    marks_at words len i false lt ∙ bit_zero words i (summed_zero _ (sym (are.sums (i / 64) within) ∙ none))

-- the lowest bit of the summary tells of a word
pub least_word : (words : List ℕ) (summary len : ℕ) → 0 < summary → summary < 2 ^ 64 → IsBitSet words summary len → trailing_zeros w64 summary < length words
least_word words summary len some small are =
    let low = bit_at-trailing_zeros w64 summary some small in
    elim (cases_lt (trailing_zeros w64 summary) (length words)) [
      | inl lt ↦ lt
      | inr past ↦ absurd (omega (arith, are.past (trailing_zeros w64 summary) past low.0, low.1))
    ]

pub is_least : (words : List ℕ) (summary len w : ℕ) → 0 < summary → summary < 2 ^ 64 → IsBitSet words summary len → w ≡ trailing_zeros w64 summary → get_or words w 0 < 2 ^ 64 → (i : ℕ) → i ≡ 64 * w + trailing_zeros w64 (get_or words w 0) → (i < len) × (get_or (marks words len) i false ≡ true) × ((k : ℕ) → k < i → get_or (marks words len) k false ≡ false)
is_least words summary len w some small are is fits i place =
    let low = rw (← is) at (bit_at-trailing_zeros w64 summary some small) in
    let within : w < length words = rw is (least_word words summary len some small are) in
    let sum : summed (get_or words w 0) ≡ 1 = sym (are.sums w within) ∙ low.1 in
    let here = bit_at-trailing_zeros w64 (get_or words w 0) (some_word _ sum) fits in
    let b : ℕ = trailing_zeros w64 (get_or words w 0) in
    let div : i / 64 ≡ w = omega (arith, here.0) in
    let rem : i % 64 ≡ b = omega (arith, here.0) in
    let set_here : bit words i ≡ true = rw (div, rem) (eq-eqb _ 1 here.1) in
    let inside : i < len = elim (cases_lt i len) [
      | inl lt ↦ lt
      | inr past ↦ absurd (false≢true (sym (are.tail i past (omega (arith, here.0))) ∙ set_here))
    ] in (
      inside,
      marks_at words len i false inside ∙ set_here,
      λ k lt. marks_at words len k false (omega arith) ∙ elim (cases_eq (k / 64) w) [
        | inl e ↦
            let none : bit_at (get_or words (k / 64) 0) (k % 64) ≡ 0 = rw e (here.2 (k % 64) (omega (arith, e, here.0))) in
            ap (λ x. x == 1) none
        | inr ne ↦
            let before : k / 64 < w = omega (arith, here.0) in
            bit_zero words k (summed_zero _ (sym (are.sums (k / 64) (omega arith)) ∙ low.2 (k / 64) before))
      ],
    )

pub bits_init : (words : List ℕ) (len : ℕ) → words ≡ replicate (len / 64 + 1) 0 → len ≤ 4095 → IsBitSet words 0 len × (marks words len ≡ replicate len false)
bits_init words len is few =
    let long : length words ≡ len / 64 + 1 = ap length is ∙ length-replicate {A = ℕ} (len / 64 + 1) 0 in
    let long_zero : length (replicate {A = ℕ} (len / 64 + 1) 0) ≡ len / 64 + 1 = length-replicate {A = ℕ} (len / 64 + 1) 0 in
    let zero_at : (w : ℕ) → get_or words w 0 ≡ 0 = λ w. rw is (elim (cases_lt w (len / 64 + 1)) [
      | inl lt ↦ get_or-replicate (len / 64 + 1) w 0 0 lt
      | inr past ↦ get_or_past (replicate (len / 64 + 1) 0) w 0 (omega (arith, long_zero))
    ]) in (
      record {
        room = omega arith;
        few = omega arith;
        sums = λ w lt. bit_at-zero w ∙ sym (ap summed (zero_at w));
        past = λ w le lt. bit_at-zero w;
        tail = λ i le lt. bit_zero words i (zero_at (i / 64));
      },
      same_lists (marks words len) (replicate len false) (marks_long words len ∙ sym (length-replicate len false))
          (λ k d within.
          let kl : k < len = rw (marks_long words len) at within in
          marks_at words len k d kl ∙ bit_zero words k (zero_at (k / 64)) ∙ sym (get_or-replicate len k false d kl)),
    )

-- the mark that a word is not 0
pub mark_is : (word : ℕ) → summed word ≡ cond (not (word == 0)) 1 0
mark_is word = go (word == 0)
  where
    go : (b : Bool) → ◌≡◌ {A = ℕ} (cond b 0 1) (cond (not b) 1 0)
    go true = refl
    go false = refl

-- a word more, without a bit
pub word_more : (words : List ℕ) (summary len : ℕ) → len < 4096 → len ≡ 64 * length words → IsBitSet words summary len → IsBitSet (words ++ 0 ∷ []) summary len × (marks (words ++ 0 ∷ []) len ≡ marks words len)
word_more words summary len few full are =
    let long : length (words ++ 0 ∷ []) ≡ length words + 1 = length_push words 0 in
    let last : get_or (words ++ 0 ∷ []) (length words) 0 ≡ 0 = get_or_push words 0 0 (length words) refl in
    let before : (w : ℕ) → w < length words → get_or (words ++ 0 ∷ []) w 0 ≡ get_or words w 0 = λ w lt. get_or_append_left words (0 ∷ []) 0 w lt in (
      record {
        room = omega (arith, are.room, long);
        few = omega (arith, long);
        sums = λ w lt. elim (cases_eq w (length words)) [
          | inl e ↦
              let none : summed (get_or (words ++ 0 ∷ []) w 0) ≡ 0 = ap summed (ap (λ k. get_or (words ++ 0 ∷ []) k 0) e ∙ last) in
              are.past w (omega (arith, e)) (omega (arith, e)) ∙ sym none
          | inr ne ↦ are.sums w (omega (arith, lt, long, ne)) ∙ sym (ap summed (before w (omega (arith, lt, long, ne))))
        ];
        past = λ w le lt. are.past w (omega (arith, le, long)) lt;
        tail = λ i le lt. bit_zero (words ++ 0 ∷ []) i (ap (λ k. get_or (words ++ 0 ∷ []) k 0) (let e : i / 64 ≡ length words = omega (arith, lt, long) in e) ∙ last);
      },
      same_lists (marks (words ++ 0 ∷ []) len) (marks words len) (marks_long (words ++ 0 ∷ []) len ∙ sym (marks_long words len))
          (λ k d within.
          let kl : k < len = rw (marks_long (words ++ 0 ∷ []) len) at within in
          marks_at (words ++ 0 ∷ []) len k d kl ∙ ap (λ x. bit_at x (k % 64) == 1) (before (k / 64) (omega arith)) ∙ sym (marks_at words len k d kl)),
    )

-- a number more, which is not in
pub number_more : (words : List ℕ) (summary len : ℕ) → len < 64 * length words → IsBitSet words summary len → IsBitSet words summary (len + 1) × (marks words (len + 1) ≡ marks words len ++ false ∷ [])
number_more words summary len inside are = (
  record {
    room = omega arith;
    few = are.few;
    sums = are.sums;
    past = are.past;
    tail = λ i le lt. are.tail i (omega arith) lt;
  },
  map-range_with_len_more (bit words) 0 len len (omega arith) ∙ ap (λ b. marks words len ++ b ∷ []) (are.tail len (omega arith) inside),
)

pub no_words : (words : List ℕ) → words ≡ [] → IsBitSet words 0 0
no_words words is = record {
  room = omega arith;
  few = let none : length words ≡ 0 = ap length is in omega (arith, none);
  sums = λ w lt. let none : length words ≡ 0 = ap length is in absurd (omega (arith, lt, none));
  past = λ w le lt. bit_at-zero w;
  tail = λ i le lt. let none : length words ≡ 0 = ap length is in absurd (omega (arith, lt, none));
}
