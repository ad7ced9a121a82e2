-- What lists give, and what their merges give.
use Rattle.std.proofs.Common.{◌≡◌, ◌≢◌, ℕ, ◌<◌, List, [], ◌∷◌, ◌++◌, length, get_or, set, refl, sym, ap, ◌∙◌, inl, inr, get_or-set_same, get_or-set_other}
use Rattle.std.specs.List.{flat_map}
use Rattle.std.proofs.lemmas.List.{get_or_past}
use Rattle.std.proofs.lemmas.Bool.{cases_lt, cases_eq}
use Rattle.saga_desk.specs.Merges.{IsMerge}

append_none : {X : Type 0} (xs ys : List X) → xs ++ ys ≡ [] → (xs ≡ []) × (ys ≡ [])
append_none [] ys e = (refl, e)
append_none (x ∷ xs) ys e = absurd cc

-- a list with an element is one of the lists
within : {X : Type 0} (ls : List (List X)) (i : ℕ) (x : X) (r : List X) → get_or ls i [] ≡ x ∷ r → i < length ls
within {X} ls i x r at = elim (cases_lt i (length ls)) [
  | inl lt ↦ lt
  | inr past ↦ (let none : ◌≡◌ {A = List X} [] (x ∷ r) = sym (get_or_past ls i [] past) ∙ at in absurd cc)
]

-- where only one of the lists has elements that give anything, a merge gives what that list does, in its order
pub gather-merge : {X Y : Type 0} (f : X → List Y) (m : List X) (ls : List (List X)) (k : ℕ)
    → ((i : ℕ) → i ≢ k → flat_map f (get_or ls i []) ≡ []) → IsMerge ls m → flat_map f m ≡ flat_map f (get_or ls k [])
gather-merge f [] ls k only mg = ap (flat_map f) (sym (mg k))
gather-merge {X} f (x ∷ m) ls k only (i, r, at, mg) =
    let same : get_or (set ls i r) i [] ≡ r = get_or-set_same ls i r [] (within ls i x r at) in
    elim (cases_eq i k) [
      | inl e ↦
          let only' : (j : ℕ) → j ≢ k → flat_map f (get_or (set ls i r) j []) ≡ [] =
          λ j ne. ap (flat_map f) (get_or-set_other ls i j r [] (λ q. ne (q ∙ e))) ∙ only j ne in
          let rest : flat_map f m ≡ flat_map f r =
          gather-merge f m (set ls i r) k only' mg ∙ ap (flat_map f) (ap (λ z. get_or (set ls i r) z []) (sym e) ∙ same) in
          ap (λ z. f x ++ z) rest ∙ ap (flat_map f) (sym at ∙ ap (λ z. get_or ls z []) e)
      | inr ne ↦
          let none = append_none (f x) (flat_map f r) (ap (flat_map f) (sym at) ∙ only i ne) in
          let only' : (j : ℕ) → j ≢ k → flat_map f (get_or (set ls i r) j []) ≡ [] = λ j nj. elim (cases_eq j i) [
            | inl e ↦ ap (flat_map f) (ap (λ z. get_or (set ls i r) z []) e ∙ same) ∙ none.1
            | inr ni ↦ ap (flat_map f) (get_or-set_other ls i j r [] ni) ∙ only j nj
          ] in
          let other : k ≢ i = λ q. ne (sym q) in
          ap (λ z. z ++ flat_map f m) none.0
          ∙ (gather-merge f m (set ls i r) k only' mg ∙ ap (flat_map f) (get_or-set_other ls i k r [] other))
    ]
