use Rattle.std.proofs.Common.{◌≡◌, ◌≢◌, ℕ, zero, suc, List, [], ◌∷◌, ◌++◌, length, get_or, set, refl, sym, ap, ◌∙◌, subst, inl, inr, get_or-set_other, get_or-set_same, arith, length-set}
use Rattle.std.specs.List.{All}
use Rattle.std.proofs.lemmas.List.{set_comm, get_or_past}
use Rattle.std.proofs.lemmas.Bool.{cases_eq, cases_lt}
use Rattle.std.proofs.lemmas.List.Elements.{All-cons, All-head, All-tail, All-nil, All-same}
use Rattle.std.specs.List.Sorted.{IsPermutation}
use Rattle.std.proofs.lemmas.List.Sorted.{IsPermutation-append_right, IsPermutation-cons, IsPermutation-middle, IsPermutation-refl, IsPermutation-sym, IsPermutation-trans}
use Rattle.saga_desk.specs.Agreement.{all_of}
use Rattle.saga_desk.specs.Merges.{IsMerge, HaveCommonMerge}

-- the head of one of the lists stands somewhere in a merge of them, and the merge without it is one of what is left
pub pull : {X : Type 0} (m : List X) (ls : List (List X)) (i : ℕ) (x : X) (r : List X) → get_or ls i [] ≡ x ∷ r → IsMerge ls m
    → (a : List X) × (b : List X) × (m ≡ a ++ x ∷ b) × IsMerge (set ls i r) (a ++ b)
pull {X} [] ls i x r at mg = let e : ◌≡◌ {A = List X} [] (x ∷ r) = sym (mg i) ∙ at in absurd cc
pull {X} (y ∷ m) ls i x r at (j, s, at_j, rest) =
    elim (cases_eq i j) [
      | inl e ↦
          let same : x ∷ r ≡ y ∷ s = sym at ∙ (ap (λ k. get_or ls k []) e ∙ at_j) in
          let xy : y ≡ x = cc in
          let rs : s ≡ r = cc in
          ([], m, ap (λ z. z ∷ m) xy, subst (λ (p : ℕ × List X). IsMerge (set ls p.0 p.1) m) (cc (sym e, rs)) rest)
      | inr ne ↦
          let at' : get_or (set ls j s) i [] ≡ x ∷ r = get_or-set_other ls j i s [] ne ∙ at in
          let ne' : j ≢ i = λ q. ne (sym q) in
          let (a, b, e, mg) = pull m (set ls j s) i x r at' rest in (
            y ∷ a,
            b,
            ap (λ z. y ∷ z) e,
            (j, s, get_or-set_other ls i j r [] ne' ∙ at_j, subst (λ z. IsMerge z (a ++ b)) (set_comm ls j i s r ne') mg),
          )
    ]

-- what holds of each element of each list holds of each element of a merge
pub All-merge : {X : Type 0} (P : X → Type 0) (m : List X) (ls : List (List X)) → ((i : ℕ) → All P (get_or ls i [])) → IsMerge ls m → All P m
All-merge P [] ls each mg = All-nil P
All-merge P (x ∷ m) ls each (j, s, at_j, rest) =
    let here : All P (x ∷ s) = All-same P (x ∷ s) (get_or ls j []) (sym at_j) (each j) in
    All-cons P x m (All-head P x s here) (All-merge P m (set ls j s)
    (λ i. elim (cases_eq i j) [
      | inl e ↦ elim (cases_lt j (length ls)) [
        | inl lt ↦ All-same P _ s (ap (λ k. get_or (set ls j s) k []) e ∙ get_or-set_same ls j s [] lt) (All-tail P x s here)
        | inr ge ↦ All-same P _ [] (ap (λ k. get_or (set ls j s) k []) e ∙ get_or_past (set ls j s) j [] (omega (arith, length-set ls j s))) (All-nil P)
      ]
      | inr ne ↦ All-same P _ (get_or ls i []) (get_or-set_other ls j i s [] ne) (each i)
    ]) rest)

-- an element that stands once in a list stands there at one place
pub one_place : {X : Type 0} (x : X) (a b a' b' : List X) → All (λ y. y ≢ x) (a ++ b) → a ++ x ∷ b ≡ a' ++ x ∷ b' → a ++ b ≡ a' ++ b'
one_place x [] b [] b' away e = cc
one_place {X} x [] b (z ∷ a') b' away e =
    let tails : b ≡ a' ++ x ∷ b' = cc in
    absurd (not_here x a' b' (All-same (λ y. y ≢ x) _ b (sym tails) away))
  where
    not_here : {X : Type 0} (x : X) (a b : List X) → All (λ y. y ≢ x) (a ++ x ∷ b) → ⊥
    not_here x [] b h = All-head (λ y. y ≢ x) x b h refl
    not_here x (z ∷ a) b h = not_here x a b (All-tail (λ y. y ≢ x) z (a ++ x ∷ b) h)
one_place x (z ∷ a) b [] b' away e = let same : z ≡ x = cc in absurd (All-head (λ y. y ≢ x) z (a ++ b) away same)
one_place {X} x (z ∷ a) b (z' ∷ a') b' away e =
    let heads : z ≡ z' = cc in
    let tails : a ++ x ∷ b ≡ a' ++ x ∷ b' = cc in
    let deep = one_place x a b a' b' (All-tail (λ y. y ≢ x) z (a ++ b) away) tails in
    cc

-- one step of the search that takes an event which is next in both
pub step_back : {X : Type 0} (hs ss : List (List X)) (i k : ℕ) (x : X) (h s : List X) → get_or hs i [] ≡ x ∷ h → get_or ss k [] ≡ x ∷ s
    → HaveCommonMerge (set hs i h) (set ss k s) → HaveCommonMerge hs ss
step_back hs ss i k x h s at_h at_s (m, mh, ms) = (x ∷ m, (i, h, at_h, mh), (k, s, at_s, ms))

-- and it loses nothing, where that event stands nowhere else
pub step_on : {X : Type 0} (hs ss : List (List X)) (i k : ℕ) (x : X) (h s : List X) → get_or hs i [] ≡ x ∷ h → get_or ss k [] ≡ x ∷ s
    → ((j : ℕ) → All (λ y. y ≢ x) (get_or (set hs i h) j []))
    → HaveCommonMerge hs ss → HaveCommonMerge (set hs i h) (set ss k s)
step_on {X} hs ss i k x h s at_h at_s once (m, mh, ms) =
    let (a, b, e, mg) = pull m hs i x h at_h mh in
    let (a', b', e', mg') = pull m ss k x s at_s ms in
    let away = All-merge (λ y. y ≢ x) (a ++ b) (set hs i h) once mg in
    let same = one_place x a b a' b' away (sym e ∙ e') in
    (a ++ b, mg, subst (λ z. IsMerge (set ss k s) z) (sym same) mg')

-- where no event is next in both, and the two agree, nothing is left
pub stuck : {X : Type 0} (hs ss : List (List X)) → ((i k : ℕ) (x : X) (h s : List X) → get_or hs i [] ≡ x ∷ h → get_or ss k [] ≡ x ∷ s → ⊥)
    → HaveCommonMerge hs ss → ((i : ℕ) → get_or hs i [] ≡ []) × ((k : ℕ) → get_or ss k [] ≡ [])
stuck hs ss none ([], mh, ms) = (mh, ms)
stuck hs ss none ((x ∷ m), (i, h, at_h, mh), (k, s, at_s, ms)) = absurd (none i k x h s at_h at_s)

-- where nothing is left, they agree
pub done : {X : Type 0} (hs ss : List (List X)) → ((i : ℕ) → get_or hs i [] ≡ []) → ((k : ℕ) → get_or ss k [] ≡ []) → HaveCommonMerge hs ss
done hs ss eh es = ([], eh, es)

-- ---- a merge has the elements of its lists
swaps-nil : {X : Type 0} (ls : List (List X)) → ((i : ℕ) → get_or ls i [] ≡ []) → all_of ls ≡ []
swaps-nil [] none = refl
swaps-nil (l ∷ ls) none = ap (λ z. z ++ all_of ls) (none 0) ∙ swaps-nil ls (λ i. none (suc i))

all_of-set : {X : Type 0} (ls : List (List X)) (i : ℕ) (x : X) (r : List X) → get_or ls i [] ≡ x ∷ r → IsPermutation (x ∷ all_of (set ls i r)) (all_of ls)
all_of-set [] i x r at = absurd cc
all_of-set {X} (l ∷ ls) zero x r at = subst (λ (z : List X). IsPermutation (x ∷ (r ++ all_of ls)) (z ++ all_of ls)) (sym at) (IsPermutation-refl (x ∷ (r ++ all_of ls)))
all_of-set {X} (l ∷ ls) (suc i) x r at =
    IsPermutation-trans (x ∷ (l ++ all_of (set ls i r))) (l ++ x ∷ all_of (set ls i r)) (l ++ all_of ls)
    (IsPermutation-sym (l ++ x ∷ all_of (set ls i r)) (x ∷ (l ++ all_of (set ls i r))) (IsPermutation-middle l x (all_of (set ls i r))))
    (IsPermutation-append_right l (x ∷ all_of (set ls i r)) (all_of ls) (all_of-set ls i x r at))

pub all_of-merge : {X : Type 0} (m : List X) (ls : List (List X)) → IsMerge ls m → IsPermutation m (all_of ls)
all_of-merge {X} [] ls mg = subst (λ (z : List X). IsPermutation [] z) (sym (swaps-nil ls mg)) (IsPermutation-refl [])
all_of-merge (x ∷ m) ls (i, r, at, rest) =
    IsPermutation-trans (x ∷ m) (x ∷ all_of (set ls i r)) (all_of ls)
    (IsPermutation-cons x m (all_of (set ls i r)) (all_of-merge m (set ls i r) rest))
    (all_of-set ls i x r at)

-- where lists have a merge in common, they have the same elements
pub all_of-common : {X : Type 0} (hs ss : List (List X)) → HaveCommonMerge hs ss → IsPermutation (all_of hs) (all_of ss)
all_of-common hs ss (m, mh, ms) =
    IsPermutation-trans (all_of hs) m (all_of ss) (IsPermutation-sym m (all_of hs) (all_of-merge m hs mh)) (all_of-merge m ss ms)
