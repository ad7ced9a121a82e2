-- What a write does to the steps that words hold.
use Rattle.std.proofs.Math.Bool.{or-false}
use Rattle.std.proofs.Common.{ℕ, ◌≡◌, ◌≢◌, ◌<◌, ◌≤◌, ◌*◌, ◌/◌, ◌%◌, ◌^◌, ◌∙◌, max, List, Bool, false, zero, suc, length, get_or, set, refl, sym, ap, inl, inr, arith, w64, bit_or, get_or-set_same, get_or-set_other}
use Rattle.std.specs.Prelude.{◌==◌, ◌||◌}
use Rattle.std.specs.Int.{bit_at}
use Rattle.std.proofs.lemmas.Bool.{cases_eq, cases_lt}
use Rattle.std.proofs.lemmas.List.{length-set, get_or_past}
use Rattle.std.proofs.lemmas.Nat.Bits.{bit_at_or, bit_at-lt, bit_at-zero, bit_at_set_same, bit_at_set_other}
use Rattle.saga_order.specs.Bits.{IsWith, IsJoined}

-- the greater of two bits is 1 where one of them is
or_bits : (a b : ℕ) → a < 2 → b < 2 → (max a b == 1) ≡ (a == 1 || b == 1)
or_bits zero zero p q = refl
or_bits zero (suc zero) p q = refl
or_bits zero (suc (suc b)) p q = absurd (omega arith)
or_bits (suc zero) zero p q = refl
or_bits (suc zero) (suc zero) p q = refl
or_bits (suc zero) (suc (suc b)) p q = absurd (omega arith)
or_bits (suc (suc a)) b p q = absurd (omega arith)

-- whether a bit of a word is set
abbrev test : ℕ → ℕ → Bool
test word bit = bit_at word bit == 1

-- a word with the bit of the step set
pub with_bit : (words : List ℕ) (step word : ℕ) → step < 64 * length words → word ≡ get_or words (step / 64) 0 → IsWith words step (set words (step / 64) (bit_or word (1 * 2 ^ (step % 64) % 2 ^ 64)))
with_bit words step word within is =
    let visit_within : step / 64 < length words = omega arith in
    let bit_within : step % 64 < 64 = omega arith in
    let value : ℕ = bit_or word (1 * 2 ^ (step % 64) % 2 ^ 64) in
    record {
      sized = length-set words (step / 64) value;
      same =
          ap (λ (w : ℕ). test w (step % 64)) (get_or-set_same words (step / 64) value 0 visit_within)
          ∙ ap (λ (b : ℕ). b == 1) (bit_at_set_same w64 word (step % 64) bit_within);
      others = λ s apart.
          elim (cases_eq (s / 64) (step / 64)) [
            | inl e ↦
                let read : get_or (set words (step / 64) value) (s / 64) 0 ≡ value = rw e (get_or-set_same words (step / 64) value 0 visit_within) in
                let old : word ≡ get_or words (s / 64) 0 = rw e is in
                let other : s % 64 ≢ step % 64 = λ same. apart (omega arith) in
                ap (λ (w : ℕ). test w (s % 64)) read
                ∙ ap (λ (b : ℕ). b == 1) (bit_at_set_other w64 word (step % 64) bit_within (s % 64) other)
                ∙ ap (λ (w : ℕ). test w (s % 64)) old
            | inr ne ↦ ap (λ (w : ℕ). test w (s % 64)) (get_or-set_other words (step / 64) (s / 64) value 0 ne)
          ];
    }

-- words that are joined one by one
pub joined_words : (old more new : List ℕ) → length new ≡ length old → ((k : ℕ) → k < length more → get_or new k 0 ≡ bit_or (get_or old k 0) (get_or more k 0)) → ((k : ℕ) → length more ≤ k → get_or new k 0 ≡ get_or old k 0) → IsJoined old more new
joined_words old more new sized front rest = record {
  sized = sized;
  either = λ s.
      elim (cases_lt (s / 64) (length more)) [
        | inl lt ↦
            ap (λ (w : ℕ). test w (s % 64)) (front (s / 64) lt)
            ∙ ap (λ (b : ℕ). b == 1) (bit_at_or (get_or old (s / 64) 0) (get_or more (s / 64) 0) (s % 64))
            ∙ or_bits (bit_at (get_or old (s / 64) 0) (s % 64)) (bit_at (get_or more (s / 64) 0) (s % 64)) (bit_at-lt _ _) (bit_at-lt _ _)
        | inr past ↦
            let none : test (get_or more (s / 64) 0) (s % 64) ≡ false =
            ap (λ (w : ℕ). test w (s % 64)) (get_or_past more (s / 64) 0 past) ∙ ap (λ (b : ℕ). b == 1) (bit_at-zero (s % 64)) in
            ap (λ (w : ℕ). test w (s % 64)) (rest (s / 64) past)
            ∙ sym (or-false (test (get_or old (s / 64) 0) (s % 64)))
            ∙ ap (λ (b : Bool). test (get_or old (s / 64) 0) (s % 64) || b) (sym none)
      ];
}
