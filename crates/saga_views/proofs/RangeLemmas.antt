-- Numbers one after another, and lists of what is made of them.
use Rattle.std.proofs.Common.{◌≡◌, ◌∙◌, ℕ, ◌+◌, ◌++◌, ◌∷◌, [], List, refl, sym, ap, arith, flat_map, map}
use Rattle.std.specs.List.{join_by, range_with_len}
use Rattle.std.proofs.lemmas.List.{flat_map_more, map-id}
use Rattle.std.proofs.lemmas.List.FromFn.{map-range_with_len_more}

range_more : (n : ℕ) → range_with_len 0 (n + 1) ≡ range_with_len 0 n ++ n ∷ []
range_more n =
    sym (map-id (range_with_len 0 (n + 1)))
    ∙ map-range_with_len_more (λ (k : ℕ). k) 0 n n (omega arith)
    ∙ ap (λ front. front ++ n ∷ []) (map-id (range_with_len 0 n))

-- what is made of one more number
pub flat_more : {A : Type 0} (f : ℕ → List A) (before : List A) (n : ℕ)
    → (before ++ flat_map f (range_with_len 0 n)) ++ f n ≡ before ++ flat_map f (range_with_len 0 (n + 1))
flat_more f before n = rw (range_more n) (flat_map_more f before (range_with_len 0 n) n)

pub map_more : {A : Type 0} (f : ℕ → A) (n : ℕ) → map f (range_with_len 0 n) ++ f n ∷ [] ≡ map f (range_with_len 0 (n + 1))
map_more f n = sym (map-range_with_len_more f 0 n n (omega arith))

-- a list that is joined by what is seen of its items
between : {X A : Type 0} (f : X → List A) (sep : List A) (xs : List X)
    → flat_map (λ y. sep ++ f y) xs ≡ flat_map (λ t. sep ++ t) (map f xs)
between f sep [] = refl
between f sep (x ∷ xs) = ap (λ rest. (sep ++ f x) ++ rest) (between f sep xs)

pub join_seen : {X A : Type 0} (f : X → List A) (sep : List A) (xs : List X)
    → join_by f sep xs ≡ join_by (λ t. t) sep (map f xs)
join_seen f sep [] = refl
join_seen f sep (x ∷ xs) = ap (λ rest. f x ++ rest) (between f sep xs)
