-- Lists beside each other, one element further.
use Rattle.std.proofs.Common.{◌≡◌, ◌∙◌, ℕ, suc, ◌+◌, ◌<◌, Vec, Global, List, [], ◌∷◌, ◌++◌, length, map, take, get_or, ap, sym, subst, refl, Some}
use Rattle.std.specs.Prelude.{slice_get, option_map}
use Rattle.std.specs.List.{AllZip}
use Rattle.std.specs.Borrow.{Bor}
use Rattle.std.proofs.lemmas.List.{take_more, map-append}
use Rattle.std.proofs.lemmas.Option.{slice_get_within, slice_get-get_or, slice_get-map, get_or_from_slice_get}

-- the text that a reference of a list shows
pub text_here : (texts : List (Bor (List ℕ))) (i : ℕ) (d : Bor (List ℕ)) → i < length texts
    → slice_get (map (λ (s : Bor (List ℕ)). s.now) texts) i ≡ Some (get_or texts i d).now
text_here texts i d lt =
    slice_get-map (λ (s : Bor (List ℕ)). s.now) texts i ∙ ap (option_map (λ (s : Bor (List ℕ)). s.now)) (slice_get-get_or texts i d lt)

zip_push : {A B : Type 0} (R : A → B → Type 0) (xs : List A) (ys : List B) (x : A) (y : B) → AllZip R xs ys → R x y
    → AllZip R (xs ++ x ∷ []) (ys ++ y ∷ [])
zip_push R [] [] x y zip r = (r, tt)
zip_push R [] (b ∷ ys) x y zip r = absurd zip
zip_push R (a ∷ xs) [] x y zip r = absurd zip
zip_push R (a ∷ xs) (b ∷ ys) x y zip r = (zip.0, zip_push R xs ys x y zip.1 r)

-- one element more of both lists
pub zip_more : {A B : Type 0} (R : A → B → Type 0) (xs : List A) (ys : List B) (i : ℕ) (x : A) (y : B) → slice_get xs i ≡ Some x
    → AllZip R (take i xs) ys → R x y → AllZip R (take (i + 1) xs) (ys ++ y ∷ [])
zip_more R xs ys i x y here zip r =
    let more = take_more xs i x (slice_get_within xs i x here) ∙ ap (λ z. take i xs ++ z ∷ []) (get_or_from_slice_get xs i x x here) in
    subst (λ l. AllZip R l (ys ++ y ∷ [])) (sym more) (zip_push R (take i xs) ys x y zip r)

abbrev items_of : List (Vec ℕ Global) → List (List ℕ)
items_of = map (λ v. v.items)

-- and where the second list is that of what vectors have
pub zip_pushed : {A : Type 0} (R : A → List ℕ → Type 0) (xs : List A) (vs ws : List (Vec ℕ Global)) (i : ℕ) (x : A) (v : Vec ℕ Global) → slice_get xs i ≡ Some x
    → AllZip R (take i xs) (items_of vs) → R x v.items → ws ≡ vs ++ v ∷ [] → AllZip R (take (i + 1) xs) (items_of ws)
zip_pushed R xs vs ws i x v here zip r is =
    subst (λ l. AllZip R (take (i + 1) xs) l) (sym (ap items_of is ∙ map-append (λ w. w.items) vs (v ∷ []))) (zip_more R xs (items_of vs) i x v.items here zip r)

-- lists beside each other are equally long
pub zip_length : {A B : Type 0} (R : A → B → Type 0) (xs : List A) (ys : List B) → AllZip R xs ys → length xs ≡ length ys
zip_length R [] [] zip = refl
zip_length R [] (b ∷ ys) zip = absurd zip
zip_length R (a ∷ xs) [] zip = absurd zip
zip_length R (a ∷ xs) (b ∷ ys) zip = ap suc (zip_length R xs ys zip.1)
