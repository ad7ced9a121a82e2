-- The steps to which the source can send more.
use Rattle.std.proofs.Common.{ℕ, zero, suc, ◌≡◌, ◌<◌, ◌+◌, ◌∙◌, ◌++◌, [], ◌∷◌, true, false, cond, List, length, get_or, set, replicate, ap, sym, refl, arith, inl, inr, get_or-set_same, get_or-set_other, length-set, rules}
use Rattle.std.specs.List.{count_by}
use Rattle.std.proofs.lemmas.Bool.{cases_eq}
use Rattle.std.proofs.lemmas.List.{length-append, get_or_push, get_or_append_left, length-replicate, get_or-replicate}
use Rattle.std.proofs.lemmas.List.Sums.{sum_by-set}
use Rattle.saga_closure.specs.Bits.{holds, IsPut, words_for}
use Rattle.saga_closure.specs.Layers.{none, is_level, IsStart, IsLabelled}
use Rattle.saga_closure.specs.declared.searching.Found.{Found}

-- how many levels there are when one comes
pub count_more : (level : List ℕ) (v l : ℕ) → v < length level → get_or level v 0 ≡ none → l < none → count_by is_level (set level v l) ≡ count_by is_level level + 1
count_more level v l lt was is =
    let gain : count_by is_level (set level v l) + cond (is_level (get_or level v 0)) 1 0 ≡ count_by is_level level + cond (is_level l) 1 0 = sum_by-set (λ (x : ℕ). cond (is_level x) 1 0) level v l 0 lt in
    let a : is_level (get_or level v 0) ≡ false = rw was refl in
    let b : is_level l ≡ true = search rules in
    omega (arith, rw (a, b) at gain)

count_none : (n : ℕ) → 0 ≡ count_by is_level (replicate n none)
count_none zero = refl
count_none (suc n) = count_none n

pub start_none : (room : ℕ → ℕ) (count : ℕ) (labelled order : List ℕ) → length labelled ≡ words_for count → ((v : ℕ) → holds labelled v ≡ true → ⊥) → order ≡ [] → IsStart room count (replicate count none) labelled order 0
start_none room count labelled order wide empty is = rw is (record {
  sized = length-replicate count none;
  wide = wide;
  inside = λ j lt. absurd (omega arith);
  counted = count_none count;
  either = λ v lt. absurd (omega arith);
  later = λ v le lt. get_or-replicate count v none 0 lt;
  marked = λ v lt held. absurd (empty v held);
})

module _ (room : ℕ → ℕ) (count : ℕ) (level labelled order : List ℕ) (k : ℕ) (so_far : IsStart room count level labelled order k) (lt : k < count) where
  pub start_shut : room k ≡ 0 → IsStart room count level labelled order (k + 1)
  start_shut shut = record {
    sized = so_far.sized;
    wide = so_far.wide;
    inside = λ j h. (omega (arith, so_far.inside j h), (so_far.inside j h).1);
    counted = so_far.counted;
    either = λ v h. elim (cases_eq v k) [
      | inl e ↦ rw e (inr (so_far.later k (omega arith) lt, shut))
      | inr ne ↦ so_far.either v (omega arith)
    ];
    later = λ v le h. so_far.later v (omega arith) h;
    marked = so_far.marked;
  }

  pub start_more : (labelled' : List ℕ) → IsPut labelled k true labelled' → 0 < room k → IsStart room count (set level k 0) labelled' (order ++ k ∷ []) (k + 1)
  start_more labelled' put goes =
      let short : k < length level = omega (arith, so_far.sized) in
      let sized' : length (order ++ k ∷ []) ≡ length order + 1 = length-append order (k ∷ []) in
      record {
        sized = length-set level k 0 ∙ so_far.sized;
        wide = put.sized ∙ so_far.wide;
        inside = λ j h. elim (cases_eq j (length order)) [
          | inl e ↦
              let at : get_or (order ++ k ∷ []) j 0 ≡ k = get_or_push order k 0 j (sym e) in
              rw at (omega arith, get_or-set_same level k 0 0 short)
          | inr ne ↦
              let less : j < length order = omega arith in
              let at : get_or (order ++ k ∷ []) j 0 ≡ get_or order j 0 = get_or_append_left order (k ∷ []) 0 j less in
              let old = so_far.inside j less in
              rw at (omega (arith, old.0), get_or-set_other level k (get_or order j 0) 0 0 (λ q. absurd (omega (arith, old.0, q))) ∙ old.1)
        ];
        counted = sized' ∙ ap (λ n. n + 1) so_far.counted ∙ sym (count_more level k 0 short (so_far.later k (omega arith) lt) (omega arith));
        either = λ v h. elim (cases_eq v k) [
          | inl e ↦ rw e (inl (get_or-set_same level k 0 0 short, goes, (length order, omega arith, get_or_push order k 0 (length order) refl)))
          | inr ne ↦
              let other : get_or (set level k 0) v 0 ≡ get_or level v 0 = get_or-set_other level k v 0 0 ne in
              elim (so_far.either v (omega arith)) [
                | inl w ↦ inl (other ∙ w.0, w.1, (w.2.0, omega (arith, w.2.1), get_or_append_left order (k ∷ []) 0 w.2.0 w.2.1 ∙ w.2.2))
                | inr w ↦ inr (other ∙ w.0, w.1)
              ]
        ];
        later = λ v le h. get_or-set_other level k v 0 0 (λ q. absurd (omega (arith, q))) ∙ so_far.later v (omega arith) h;
        marked = λ v h held. elim (cases_eq v k) [
          | inl e ↦ rw e (omega (arith, get_or-set_same level k 0 0 short))
          | inr ne ↦ omega (arith, get_or-set_other level k v 0 0 ne, so_far.marked v h (sym (put.others v ne) ∙ held))
        ];
      }

pub start_labelled : (room : ℕ → ℕ) (count : ℕ) (old new : Found) (k : ℕ) → IsStart room count old.level.items old.labelled.items old.order.items k → k < count → 0 < room k → IsLabelled old new k 0 → IsStart room count new.level.items new.labelled.items new.order.items (k + 1)
start_labelled room count old new k so_far lt goes labelled =
    rw (labelled.level, labelled.order) (start_more room count old.level.items old.labelled.items old.order.items k so_far lt new.labelled.items labelled.labelled goes)
