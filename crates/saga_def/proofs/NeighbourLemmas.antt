-- The neighbours of a step ascend, each is there once, and they are all that its needs name.
use Rattle.saga_def.specs.Peeling.{one_if}
use Rattle.std.proofs.Common.{ℕ, ◌≡◌, ◌<◌, ◌≤◌, ◌+◌, ◌*◌, ◌∙◌, ◌⊎◌, inl, inr, List, [], ◌∷◌, ◌++◌, length, get_or, map, ap, sym, refl, arith, suc, zero}
use Rattle.std.specs.Prelude.{Bool, true, false, ◌==◌, cond, Contains, slice_index, slice_get, Some, None}
use Rattle.std.specs.List.{filter, count_by, sum_by, flat_map, range_with_len}
use Rattle.std.proofs.lemmas.Bool.{cases_eq, cases_lt, eq-eqb, eqb-true, ne_eqb}
use Rattle.std.proofs.lemmas.List.{get_or-map, length-map, get_or_default}
use Rattle.std.proofs.lemmas.List.Sums.{sum_by-cons, get_or-le-sum_by}
use Rattle.std.proofs.lemmas.List.Elements.{filter-append, filter_passes}
use Rattle.std.proofs.lemmas.Option.{slice_get-get_or, get_or_from_slice_get, slice_get_past}
use Rattle.std.specs.List.Sorted.{IsStrictlyIncreasing}
use Rattle.saga_def.specs.Groups.{has_key, group}
use Rattle.saga_def.specs.Adjacency.{ordered, places_at, needing, needed}
use Rattle.saga_def.specs.Neighbours.{needs_of, needed_by, places_of, places_on, a_need, AreNeedsOf, AreNeededBy, ArePlacesOf, ArePlacesOn}
use Rattle.saga_def.specs.Order.{NeedsDirectly}
use Rattle.saga_def.specs.Contents.{Contents}
use Rattle.saga_def.specs.Sound.{IsSound}
use Rattle.saga_def.specs.Rules.{AreSingle}
use Rattle.saga_def.specs.declared.steps.Need.{Need}
use Rattle.saga_def.proofs.AdjacencyLemmas.{sum_of, occurs_both, places_below, no_need}

-- each number is less than those after it
abbrev pub Ascends : List ℕ → Type 0
Ascends [] = Unit {0}
Ascends (x ∷ []) = Unit {0}
Ascends (x ∷ (y ∷ ys)) = (x < y) × Ascends (y ∷ ys)

-- from a number on, not descending
abbrev pub Rises : ℕ → List ℕ → Type 0
Rises low [] = Unit {0}
Rises low (x ∷ xs) = (low ≤ x) × Rises x xs

rises_lower : (low low' : ℕ) (xs : List ℕ) → low' ≤ low → Rises low xs → Rises low' xs
rises_lower low low' [] le up = tt
rises_lower low low' (x ∷ xs) le up = (omega (arith, up.0), up.1)

-- a block of one key before what rises from the next
block_rises : (others : List ℕ) (p : ℕ → Bool) (a : ℕ) (xs : List ℕ) (rest : List ℕ) → Rises a (map (slice_index others) rest) → Rises a (map (slice_index others) (filter p (filter (has_key others a) xs) ++ rest))
block_rises others p a [] rest up = up
block_rises others p a (x ∷ xs) rest up = one (has_key others a x) refl (block_rises others p a xs rest up)
  where
    two : (b : Bool) → get_or others x 0 ≡ a → Rises a (map (slice_index others) (filter p (filter (has_key others a) xs) ++ rest)) → Rises a (map (slice_index others) (cond b (x ∷ filter p (filter (has_key others a) xs)) (filter p (filter (has_key others a) xs)) ++ rest))
    two true e later = (omega (arith, e), rw e later)
    two false e later = later

    one : (b : Bool) → has_key others a x ≡ b → Rises a (map (slice_index others) (filter p (filter (has_key others a) xs) ++ rest)) → Rises a (map (slice_index others) (filter p (cond b (x ∷ filter (has_key others a) xs) (filter (has_key others a) xs)) ++ rest))
    one true e later = two (p x) (eqb-true _ _ e) later
    one false e later = later

places_rise_from : (others : List ℕ) (p : ℕ → Bool) (xs : List ℕ) (a n : ℕ) → Rises a (map (slice_index others) (filter p (flat_map (group others xs) (range_with_len a n))))
places_rise_from others p xs a zero = tt
places_rise_from others p xs a (suc n) =
    let later = rises_lower (a + 1) a _ (omega arith) (places_rise_from others p xs (a + 1) n) in
    rw (filter-append p (group others xs a) (flat_map (group others xs) (range_with_len (a + 1) n))) (block_rises others p a xs (filter p (flat_map (group others xs) (range_with_len (a + 1) n))) later)

-- the neighbours of a step do not descend
pub places_rise : (keys others : List ℕ) (count i : ℕ) → Rises 0 (map (slice_index others) (places_at keys others count i))
places_rise keys others count i = places_rise_from others (has_key keys i) (range_with_len 0 (length keys)) 0 count

-- where each stands once, they ascend
pub ascends_from : (low : ℕ) (xs : List ℕ) → Rises low xs → ((x : ℕ) → count_by (λ y. y == x) xs ≤ 1) → Ascends xs
ascends_from low [] up once = tt
ascends_from low (x ∷ []) up once = tt
ascends_from low (x ∷ (y ∷ ys)) up once = (
  elim (cases_eq x y) [
    | inl e ↦
        let f : ℕ → ℕ = λ z. cond (z == x) 1 0 in
        let a : f x ≡ 1 = ap (λ b. cond b 1 0) (eq-eqb x x refl) in
        let b : f y ≡ 1 = ap (λ b. cond b 1 0) (eq-eqb y x (sym e)) in
        absurd (omega (arith, once x, sum_by-cons f x (y ∷ ys), sum_by-cons f y ys, a, b))
    | inr ne ↦ omega (arith, up.1.0, ne)
  ],
  ascends_from x (y ∷ ys) up.1 (λ z. let f : ℕ → ℕ = λ w. cond (w == z) 1 0 in omega (arith, once z, sum_by-cons f x (y ∷ ys))),
)

-- a need is there once, so a step is once among those that another needs

abbrev links : ℕ → ℕ → Need → ℕ
links b s n = one_if (n.step == b) * one_if (n.on == s)

need_is : (n : Need) (b s : ℕ) → n.step ≡ b → n.on ≡ s → n ≡ record { step = b; on = s }
need_is n b s e f =
    let g : ℕ → Need = λ x. record { step = x; on = n.on } in
    let h : ℕ → Need = λ x. record { step = b; on = x } in
    ap g e ∙ ap h f

one_link : (n : Need) (b s : ℕ) → ((n ≡ record { step = b; on = s }) × (links b s n ≡ 1)) ⊎ (links b s n ≡ 0)
one_link n b s = elim (cases_eq n.step b) [
  | inl e ↦ elim (cases_eq n.on s) [
    | inl f ↦ inl (need_is n b s e f, rw (eq-eqb n.step b e, eq-eqb n.on s f) refl)
    | inr ne ↦ inr (rw (ne_eqb n.on s ne) (omega arith))
  ]
  | inr ne ↦ inr (rw (ne_eqb n.step b ne) (omega arith))
]

none_like : (needs : List Need) (b s : ℕ) → ((k : ℕ) (d : Need) → k < length needs → get_or needs k d ≡ record { step = b; on = s } → ⊥) → sum_by (links b s) needs ≡ 0
none_like [] b s apart = refl
none_like (n ∷ needs) b s apart =
    let later = none_like needs b s (λ k d lt. apart (suc k) d (omega (arith, lt))) in
    elim (one_link n b s) [
      | inl (e, one) ↦ absurd (apart 0 n (omega arith) e)
      | inr none ↦ omega (arith, sum_by-cons (links b s) n needs, later, none)
    ]

twice : (needs : List Need) (b s : ℕ) → AreSingle needs → sum_by (links b s) needs ≤ 1
twice [] b s single = omega arith
twice (n ∷ needs) b s single =
    let later = twice needs b s (λ i j d lt within. single (suc i) (suc j) d (omega arith) (omega (arith, within))) in
    elim (one_link n b s) [
      | inl (e, one) ↦
          let rest = none_like needs b s (λ k d lt same. single 0 (suc k) d (omega arith) (omega (arith, lt)) (e ∙ sym same)) in
          omega (arith, sum_by-cons (links b s) n needs, rest, one)
      | inr none ↦ omega (arith, sum_by-cons (links b s) n needs, later, none)
    ]

pub once_of : (c : Contents) (b s : ℕ) → IsSound c → count_by (λ x. x == s) (needs_of c b) ≤ 1
once_of c b s sound = omega (arith, sum_of (λ x. one_if (x == s)) c b sound.known, twice c.needs b s sound.single)

pub once_on : (c : Contents) (b s : ℕ) → IsSound c → count_by (λ x. x == b) (needed_by c s) ≤ 1
once_on c b s sound = omega (arith, occurs_both c b s sound.known, once_of c b s sound)

increasing : (xs : List ℕ) → Ascends xs → IsStrictlyIncreasing xs
increasing [] up k lt = absurd (omega arith)
increasing (x ∷ []) up k lt = absurd (omega arith)
increasing (x ∷ (y ∷ ys)) up zero lt = up.0
increasing (x ∷ (y ∷ ys)) up (suc k) lt =
    let later : get_or (y ∷ ys) k 0 < get_or (y ∷ ys) (k + 1) 0 = increasing (y ∷ ys) up.1 k (omega (arith, lt)) in
    let here : get_or (x ∷ (y ∷ ys)) (suc k + 1) 0 ≡ get_or (y ∷ ys) (k + 1) 0 = ap (λ (m : ℕ). get_or (x ∷ (y ∷ ys)) m 0) (let f : suc k + 1 ≡ suc (k + 1) = omega arith in f) in
    rw here later

-- a number that is counted is there
counted_is_there : (xs : List ℕ) (x : ℕ) → 0 < count_by (λ y. y == x) xs → Contains xs x
counted_is_there [] x some = absurd (omega (arith, some))
counted_is_there (y ∷ xs) x some = elim (cases_eq y x) [
  | inl e ↦ (0, omega arith, e)
  | inr ne ↦
      let none : one_if (y == x) ≡ 0 = ap (λ b. cond b 1 0) (ne_eqb y x ne) in
      let later : Contains xs x = counted_is_there xs x (omega (arith, some, none, sum_by-cons (λ z. one_if (z == x)) y xs)) in
      (suc later.0, omega (arith, later.1), later.2)
]

-- the need at the place of a neighbour has the one end for its key, and the neighbour for the other
need_there : (key other : Need → ℕ) (needs : List Need) (count i j : ℕ) → j < length (places_at (map key needs) (map other needs) count i) → let p : ℕ = get_or (places_at (map key needs) (map other needs) count i) j 0 in (p < length needs) × (key (get_or needs p no_need) ≡ i) × (other (get_or needs p no_need) ≡ get_or (map (slice_index (map other needs)) (places_at (map key needs) (map other needs) count i)) j 0)
need_there key other needs count i j lt =
    let places : List ℕ = places_at (map key needs) (map other needs) count i in
    let p : ℕ = get_or places j 0 in
    let within : p < length (map key needs) = places_below (map key needs) (map other needs) count i j 0 lt in
    let p_in : p < length needs = omega (arith, within, length-map needs key) in
    let passes : (get_or (map key needs) p 0 == i) ≡ true = filter_passes {X = ℕ} (has_key (map key needs) i) (ordered (map other needs) count (length (map key needs))) j 0 lt in (
      p_in,
      sym (get_or-map key needs p no_need 0 p_in) ∙ eqb-true _ _ passes,
      sym (get_or-map other needs p no_need 0 p_in) ∙ sym (get_or-map (slice_index (map other needs)) places j 0 0 lt),
    )

need_from : (needs : List Need) (p b a : ℕ) → p < length needs → (get_or needs p no_need).step ≡ b → (get_or needs p no_need).on ≡ a → slice_get needs p ≡ Some (a_need b a)
need_from needs p b a lt step on = slice_get-get_or needs p no_need lt ∙ ap (λ (n : Need). Some n) (need_is (get_or needs p no_need) b a step on)

pub are_places_of : (c : Contents) (b : ℕ) → ArePlacesOf c.needs b (needs_of c b) (places_of c b)
are_places_of c b = record {
  sized = sym (length-map (places_of c b) (slice_index (needed c.needs)));
  each = λ j lt.
      let there = need_there (λ (n : Need). n.step) (λ (n : Need). n.on) c.needs (length c.steps) b j (omega (arith, lt, length-map (places_of c b) (slice_index (needed c.needs)))) in
      need_from c.needs _ b _ there.0 there.1 there.2;
}

pub are_places_on : (c : Contents) (a : ℕ) → ArePlacesOn c.needs a (needed_by c a) (places_on c a)
are_places_on c a = record {
  sized = sym (length-map (places_on c a) (slice_index (needing c.needs)));
  each = λ j lt.
      let there = need_there (λ (n : Need). n.on) (λ (n : Need). n.step) c.needs (length c.steps) a j (omega (arith, lt, length-map (places_on c a) (slice_index (needing c.needs)))) in
      need_from c.needs _ _ a there.0 there.2 there.1;
}

-- a need is counted among those like it
need_counts : (needs : List Need) (b a : ℕ) → NeedsDirectly needs b a → 0 < sum_by (links b a) needs
need_counts needs b a (k, lt, is) =
    let one : links b a (get_or needs k (a_need b a)) ≡ 1 = ap (links b a) is ∙ ap (λ x. x * one_if (a == a)) (ap one_if (eq-eqb b b refl)) ∙ ap (λ x. 1 * x) (ap one_if (eq-eqb a a refl)) in
    omega (arith, one, get_or-le-sum_by (links b a) needs k (a_need b a) lt)

found_at : (needs : List Need) (p b a : ℕ) → slice_get needs p ≡ Some (a_need b a) → NeedsDirectly needs b a
found_at needs p b a is = elim (cases_lt p (length needs)) [
  | inl lt ↦ (p, lt, get_or_from_slice_get needs p (a_need b a) (a_need b a) is)
  | inr past ↦ let no : Some (a_need b a) ≡ None = sym is ∙ slice_get_past needs p past in absurd cc
]

pub are_needs_of : (c : Contents) (b : ℕ) → IsSound c → AreNeedsOf c.needs b (needs_of c b)
are_needs_of c b sound = record {
  ascending = increasing (needs_of c b) (ascends_from 0 (needs_of c b) (places_rise (needing c.needs) (needed c.needs) (length c.steps) b) (λ s. once_of c b s sound));
  found = λ a (j, lt, is).
      let there = (are_places_of c b).each j lt in
      let p : ℕ = slice_index (places_of c b) j in
      let a' : ℕ = slice_index (needs_of c b) j in
      let same : a' ≡ a = get_or_default (needs_of c b) j 0 a lt ∙ is in
      found_at c.needs p b a (there ∙ ap (λ (x : ℕ). Some (a_need b x)) same);
  all = λ a direct. counted_is_there (needs_of c b) a (omega (arith, need_counts c.needs b a direct, sum_of (λ x. one_if (x == a)) c b sound.known));
}

pub are_needed_by : (c : Contents) (a : ℕ) → IsSound c → AreNeededBy c.needs a (needed_by c a)
are_needed_by c a sound = record {
  ascending = increasing (needed_by c a) (ascends_from 0 (needed_by c a) (places_rise (needed c.needs) (needing c.needs) (length c.steps) a) (λ b. once_on c b a sound));
  found = λ b (j, lt, is).
      let there = (are_places_on c a).each j lt in
      let p : ℕ = slice_index (places_on c a) j in
      let b' : ℕ = slice_index (needed_by c a) j in
      let same : b' ≡ b = get_or_default (needed_by c a) j 0 b lt ∙ is in
      found_at c.needs p b a (there ∙ ap (λ (x : ℕ). Some (a_need x a)) same);
  all = λ b direct. counted_is_there (needed_by c a) b (omega (arith, need_counts c.needs b a direct, occurs_both c b a sound.known, sum_of (λ x. one_if (x == a)) c b sound.known));
}
