-- Steps one after another.
use Rattle.std.proofs.Common.{◌≡◌, ◌∙◌, ℕ, ◌+◌, ◌<◌, ◌++◌, ◌∷◌, [], List, Bool, true, false, refl, sym, ap, arith, length, flat_map}
use Rattle.std.specs.List.{list_all, range_with_len}
use Rattle.std.proofs.lemmas.List.{flat_map_more}
use Rattle.std.proofs.lemmas.List.Folds.{list_all-append, list_all_at}
use Rattle.std.proofs.lemmas.List.FromFn.{length-range_with_len, get_or-range_with_len}
use Rattle.saga_def.proofs.AdjacencyLemmas.{range_push}

-- the text of one more step
pub steps_more : (f : ℕ → List ℕ) (before : List ℕ) (n : ℕ) → (before ++ flat_map f (range_with_len 0 n)) ++ f n ≡ before ++ flat_map f (range_with_len 0 (n + 1))
steps_more f before n = rw (range_push n) (flat_map_more f before (range_with_len 0 n) n)

-- one more step that passes a test
pub all_more : (p : ℕ → Bool) (n : ℕ) → list_all p (range_with_len 0 n) ≡ true → p n ≡ true → list_all p (range_with_len 0 (n + 1)) ≡ true
all_more p n h k = rw (range_push n, list_all-append p (range_with_len 0 n) (n ∷ []), h, k) refl

-- a step that does not
pub all_fails : (p : ℕ → Bool) (count n : ℕ) → n < count → p n ≡ false → list_all p (range_with_len 0 count) ≡ false
all_fails p count n lt h =
    let z : 0 + n ≡ n = omega arith in
    let l : n < length (range_with_len 0 count) = omega (arith, length-range_with_len 0 count, lt) in
    list_all_at p (range_with_len 0 count) n 0 l (ap p (get_or-range_with_len 0 count n 0 lt ∙ z) ∙ h)
