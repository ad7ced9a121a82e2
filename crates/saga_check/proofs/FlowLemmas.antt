-- What is left to add of the amounts that the needs carry.
use Rattle.std.proofs.Common.{ℕ, ◌≡◌, ◌<◌, ◌≤◌, ◌+◌, ◌*◌, ◌∙◌, ap, sym, map, arith, zero, suc, List, [], ◌∷◌, length, get_or, drop, refl}
use Rattle.std.specs.Prelude.{Bool, true, false, cond, All, slice_index, ◌==◌, if◌then◌else◌}
use Rattle.std.specs.List.{sum_by, range_with_len}
use Rattle.std.proofs.lemmas.List.Sums.{sum_by-cons}
use Rattle.std.proofs.lemmas.List.Elements.{All-weaker}
use Rattle.saga_def.specs.Groups.{has_key}
use Rattle.saga_def.specs.Adjacency.{places_at, needed, needing}
use Rattle.saga_def.specs.Rules.{AreKnown}
use Rattle.saga_def.proofs.AdjacencyLemmas.{sum_places_at, sum_same, range_below, places_below, needing_below, needed_below, no_need}
use Rattle.std.proofs.lemmas.List.{drop_more, drop_all, length-map, get_or-map}
use Rattle.saga_def.specs.declared.steps.Need.{Need}
use Rattle.saga_case.specs.Flow.{carried}

carried_cons : (test : Need → Bool) (need : Need) (needs : List Need) (x : ℕ) (links : List ℕ) → carried test (need ∷ needs) (x ∷ links) ≡ (if test need then x else 0) + carried test needs links
unfolding carried
carried_cons test need needs x links = refl

pub carried_nil : (test : Need → Bool) (links : List ℕ) → carried test [] links ≡ 0
unfolding carried
carried_nil test links = refl

-- one need more
pub carried_more : (test : Need → Bool) (needs : List Need) (links : List ℕ) (i : ℕ) (d : Need) → i < length needs → i < length links → carried test (drop i needs) (drop i links) ≡ (if test (get_or needs i d) then get_or links i 0 else 0) + carried test (drop (i + 1) needs) (drop (i + 1) links)
carried_more test needs links i d lt lt' = rw (drop_more needs i d lt, drop_more links i 0 lt') (carried_cons test _ _ _ _)

-- none left
pub carried_done : (test : Need → Bool) (needs : List Need) (links : List ℕ) (i : ℕ) → length needs ≤ i → carried test (drop i needs) (drop i links) ≡ 0
carried_done test needs links i le = rw (drop_all i needs le) (carried_nil test (drop i links))

abbrev one_if : Bool → ℕ
one_if b = cond b 1 0

choice : (b : Bool) (x : ℕ) → (if b then x else 0) ≡ one_if b * x
choice true x = omega arith
choice false x = omega arith

-- what is carried by the needs from a place on, as a sum over their places
carried_from : (test : Need → Bool) (needs : List Need) (links : List ℕ) (i n : ℕ) → length links ≡ length needs → i + n ≡ length needs → carried test (drop i needs) (drop i links) ≡ sum_by (λ k. one_if (test (get_or needs k no_need)) * get_or links k 0) (range_with_len i n)
carried_from test needs links i zero same is = carried_done test needs links i (omega (arith, is))
carried_from test needs links i (suc n) same is =
    omega (arith, carried_more test needs links i no_need (omega (arith, is)) (omega (arith, is, same)), choice (test (get_or needs i no_need)) (get_or links i 0), carried_from test needs links (i + 1) n same (omega (arith, is)), sum_by-cons (λ k. one_if (test (get_or needs k no_need)) * get_or links k 0) i (range_with_len (i + 1) n))

-- the sum over the places of a key is what the needs of that key carry
pub sum_is_carried : (keys others : List ℕ) (key : Need → ℕ) (needs : List Need) (links : List ℕ) (count i : ℕ) → keys ≡ map key needs → length others ≡ length needs → length links ≡ length needs → All (λ (x : ℕ). x < count) others → sum_by (slice_index links) (places_at keys others count i) ≡ carried (λ (n : Need). key n == i) needs links
sum_is_carried keys others key needs links count i is long same below =
    let m : length keys ≡ length needs = ap length is ∙ length-map needs key in
    sum_places_at (slice_index links) keys others count i (omega (arith, long, m)) below
    ∙ ap (λ m. sum_by (λ k. one_if (has_key keys i k) * get_or links k 0) (range_with_len 0 m)) m
    ∙ sum_same (λ k. one_if (has_key keys i k) * get_or links k 0) (λ k. one_if (key (get_or needs k no_need) == i) * get_or links k 0) (λ k. k < length needs) (range_with_len 0 (length needs))
    (λ k lt.
    let at : get_or keys k 0 ≡ key (get_or needs k no_need) = ap (λ ks. get_or ks k 0) is ∙ get_or-map key needs k no_need 0 lt in
    ap (λ x. one_if (x == i) * get_or links k 0) at)
    (range_below (length needs))
    ∙ sym (carried_from (λ (n : Need). key n == i) needs links 0 (length needs) same (omega arith))

pub into_is : (needs : List Need) (links : List ℕ) (count i : ℕ) → AreKnown needs count → length links ≡ length needs → sum_by (slice_index links) (places_at (needed needs) (needing needs) count i) ≡ carried (λ (n : Need). n.on == i) needs links
into_is needs links count i known same = sum_is_carried (needed needs) (needing needs) (λ (n : Need). n.on) needs links count i refl (length-map needs (λ (n : Need). n.step)) same (needing_below needs count known)

pub out_is : (needs : List Need) (links : List ℕ) (count i : ℕ) → AreKnown needs count → length links ≡ length needs → sum_by (slice_index links) (places_at (needing needs) (needed needs) count i) ≡ carried (λ (n : Need). n.step == i) needs links
out_is needs links count i known same = sum_is_carried (needing needs) (needed needs) (λ (n : Need). n.step) needs links count i refl (length-map needs (λ (n : Need). n.on)) same (needed_below needs count known)

-- these places are within the links
pub on_within : (needs : List Need) (count i m : ℕ) → length needs ≡ m → All (λ (k : ℕ). k < m) (places_at (needed needs) (needing needs) count i)
on_within needs count i m same = All-weaker (λ (k : ℕ). k < length (needed needs)) (λ (k : ℕ). k < m) (λ k lt. omega (arith, lt, same, length-map needs (λ (n : Need). n.on))) (places_at (needed needs) (needing needs) count i) (places_below (needed needs) (needing needs) count i)

pub of_within : (needs : List Need) (count i m : ℕ) → length needs ≡ m → All (λ (k : ℕ). k < m) (places_at (needing needs) (needed needs) count i)
of_within needs count i m same = All-weaker (λ (k : ℕ). k < length (needing needs)) (λ (k : ℕ). k < m) (λ k lt. omega (arith, lt, same, length-map needs (λ (n : Need). n.step))) (places_at (needing needs) (needed needs) count i) (places_below (needing needs) (needed needs) count i)
