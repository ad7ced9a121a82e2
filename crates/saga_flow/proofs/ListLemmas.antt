-- Items of lists that grow.
use Rattle.std.proofs.Common.{◌≡◌, ℕ, zero, suc, List, [], ◌∷◌, ◌++◌, ◌⊎◌, Some, length, refl, sym, ap, inl, inr}
use Rattle.std.specs.Prelude.{slice_get}
use Rattle.std.proofs.lemmas.Option.{none-some, same_Some}

-- an item of a list is one of a longer list
pub slice_get-append : {X : Type 0} (xs ys : List X) (at : ℕ) (x : X) → slice_get xs at ≡ Some x → slice_get (xs ++ ys) at ≡ Some x
slice_get-append [] ys at x h = absurd (none-some x h)
slice_get-append (y ∷ xs) ys zero x h = h
slice_get-append (y ∷ xs) ys (suc at) x h = slice_get-append xs ys at x h

-- the item that was pushed
pub slice_get-pushed : {X : Type 0} (xs : List X) (y : X) → slice_get (xs ++ y ∷ []) (length xs) ≡ Some y
slice_get-pushed [] y = refl
slice_get-pushed (x ∷ xs) y = slice_get-pushed xs y

-- an item is an older one or the one that was pushed
pub slice_get-push_cases : {X : Type 0} (xs : List X) (y : X) (at : ℕ) (x : X) → slice_get (xs ++ y ∷ []) at ≡ Some x → (slice_get xs at ≡ Some x) ⊎ ((at ≡ length xs) × (x ≡ y))
slice_get-push_cases [] y zero x h = inr (refl, sym (same_Some _ _ h))
slice_get-push_cases [] y (suc at) x h = absurd (none-some x h)
slice_get-push_cases (z ∷ xs) y zero x h = inl h
slice_get-push_cases (z ∷ xs) y (suc at) x h =
    elim (slice_get-push_cases xs y at x h) [ inl old ↦ inl old | inr new ↦ inr (ap suc new.0, new.1) ]
