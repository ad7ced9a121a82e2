-- The arcs of a case's network in their three groups, and sums over them.
use Rattle.std.proofs.Common.{ℕ, ◌≡◌, ◌<◌, ◌≤◌, ◌+◌, ◌-◌, ◌∙◌, ◌++◌, Bool, false, List, [], ◌∷◌, Some, length, get_or, map, drop, sum_by, ap, sym, subst, refl, arith, zero, suc, inl, inr}
use Rattle.std.specs.Prelude.{slice_get, if◌then◌else◌}
use Rattle.std.proofs.lemmas.Bool.{cases_eq, cases_lt}
use Rattle.std.proofs.lemmas.List.{length-append, length-map, get_or_append_left, get_or-append_right, get_or_push, get_or-map, length-drop}
use Rattle.std.proofs.lemmas.List.Sums.{sum_by-append, sum_by-cons, sum_by_push}
use Rattle.std.proofs.lemmas.Option.{slice_get_within, slice_get-get_or, same_Some}
use Rattle.saga_def.specs.declared.steps.Need.{Need}
use Rattle.saga_case.specs.Terms.{Terms}
use Rattle.saga_case.specs.Flow.{carried, sum_below}
use Rattle.saga_flow.specs.declared.nets.Arc.{Arc}
use Rattle.saga_flow.specs.Flows.{total}
use Rattle.saga_closure.specs.CaseNet.{leave_arc, stand_arc, link_arc, arcs_below, network_of}

pub arcs_none : (arc : ℕ → Arc) → arcs_below 0 arc ≡ []
unfolding arcs_below
arcs_none arc = refl

-- one more arc
pub arcs_more : (n : ℕ) (arc : ℕ → Arc) → arcs_below (n + 1) arc ≡ arcs_below n arc ++ arc n ∷ []
unfolding arcs_below
arcs_more n arc = let e : n + 1 ≡ suc n = omega arith in rw e refl

pub length_arcs : (n : ℕ) (arc : ℕ → Arc) → length (arcs_below n arc) ≡ n
unfolding arcs_below
length_arcs zero arc = refl
length_arcs (suc n) arc = omega (arith, length-append (arcs_below n arc) (arc n ∷ []), length_arcs n arc)

-- the arc of a number
pub arc_at : (n : ℕ) (arc : ℕ → Arc) (k : ℕ) (d : Arc) → k < n → get_or (arcs_below n arc) k d ≡ arc k
unfolding arcs_below
arc_at zero arc k d lt = absurd (omega (arith, lt))
arc_at (suc n) arc k d lt = elim (cases_eq k n) [
  | inl same ↦ get_or_push (arcs_below n arc) (arc n) d k (length_arcs n arc ∙ sym same) ∙ ap arc (sym same)
  | inr apart ↦
      let less : k < n = omega (arith, lt, apart) in
      get_or_append_left (arcs_below n arc) (arc n ∷ []) d k (omega (arith, length_arcs n arc, less)) ∙ arc_at n arc k d less
]

-- ---- the sum over the arcs of an amount on each

total_push : (share : Arc → ℕ → ℕ) (arcs : List Arc) (a : Arc) (on : List ℕ) → length arcs < length on → total share (arcs ++ a ∷ []) on ≡ total share arcs on + share a (get_or on (length arcs) 0)
total_push share [] a [] h = absurd (omega (arith, h))
total_push share [] a (x ∷ on) h = omega arith
total_push share (b ∷ arcs) a [] h = absurd (omega (arith, h))
total_push share (b ∷ arcs) a (x ∷ on) h = omega (arith, total_push share arcs a on (omega (arith, h)))

total_append : (share : Arc → ℕ → ℕ) (xs ys : List Arc) (on : List ℕ) → length xs ≤ length on → total share (xs ++ ys) on ≡ total share xs on + total share ys (drop (length xs) on)
total_append share [] ys on h = omega arith
total_append share (a ∷ xs) ys [] h = absurd (omega (arith, h))
total_append share (a ∷ xs) ys (x ∷ on) h = omega (arith, total_append share xs ys on (omega (arith, h)))

total_below : (share : Arc → ℕ → ℕ) (n : ℕ) (arc : ℕ → Arc) (on : List ℕ) → n ≤ length on → total share (arcs_below n arc) on ≡ sum_below n (λ s. share (arc s) (get_or on s 0))
unfolding arcs_below sum_below
total_below share zero arc on h = refl
total_below share (suc n) arc on h =
    let sized : length (arcs_below n arc) ≡ n = length_arcs n arc in
    let last : share (arc n) (get_or on (length (arcs_below n arc)) 0) ≡ share (arc n) (get_or on n 0) = ap (λ k. share (arc n) (get_or on k 0)) sized in
    omega (arith, total_push share (arcs_below n arc) (arc n) on (omega (arith, sized, h)), total_below share n arc on (omega (arith, h)), last)

total_links : (share : Arc → ℕ → ℕ) (test : Need → Bool) (needs : List Need) (links : List ℕ) → ((n : Need) (x : ℕ) → share (link_arc n) x ≡ (if test n then x else 0)) → total share (map link_arc needs) links ≡ carried test needs links
unfolding carried
total_links share test [] links each = refl
total_links share test (n ∷ needs) [] each = refl
total_links share test (n ∷ needs) (x ∷ links) each = omega (arith, each n x, total_links share test needs links each)

-- what the three groups carry
pub total_network : (t : Terms) (share : Arc → ℕ → ℕ) (test : Need → Bool) (on : List ℕ) → length on ≡ t.count + (t.count + length t.needs) → ((n : Need) (x : ℕ) → share (link_arc n) x ≡ (if test n then x else 0)) → total share (network_of t).arcs on ≡ sum_below t.count (λ s. share (leave_arc t s) (get_or on s 0)) + (sum_below t.count (λ s. share (stand_arc t s) (get_or (drop t.count on) s 0)) + carried test t.needs (drop t.count (drop t.count on)))
total_network t share test on sized each =
    let n : ℕ = t.count in
    let leave : List Arc = arcs_below n (leave_arc t) in
    let stand : List Arc = arcs_below n (stand_arc t) in
    let links : List Arc = map link_arc t.needs in
    let leave_size : length leave ≡ n = length_arcs n (leave_arc t) in
    let stand_size : length stand ≡ n = length_arcs n (stand_arc t) in
    let rest : List ℕ = drop n on in
    let rest_size : length rest ≡ n + length t.needs = omega (arith, length-drop n on, sized) in
    let first : total share (leave ++ (stand ++ links)) on ≡ total share leave on + total share (stand ++ links) rest =
    rw leave_size at (total_append share leave (stand ++ links) on (omega (arith, leave_size, sized))) in
    let second : total share (stand ++ links) rest ≡ total share stand rest + total share links (drop n rest) =
    rw stand_size at (total_append share stand links rest (omega (arith, stand_size, rest_size))) in
    omega (arith, first, second, total_below share n (leave_arc t) on (omega (arith, sized)), total_below share n (stand_arc t) rest (omega (arith, rest_size)), total_links share test t.needs (drop n rest) each)

-- needs that fail the test carry nothing
pub carried_none : (test : Need → Bool) (needs : List Need) (links : List ℕ) → ((n : Need) → test n ≡ false) → carried test needs links ≡ 0
unfolding carried
carried_none test [] links fails = refl
carried_none test (n ∷ needs) [] fails = refl
carried_none test (n ∷ needs) (x ∷ links) fails = rw (fails n) (omega (arith, carried_none test needs links fails))

-- ---- the sum over the arcs alone

sum_by_below : (share : Arc → ℕ) (n : ℕ) (arc : ℕ → Arc) → sum_by share (arcs_below n arc) ≡ sum_below n (λ s. share (arc s))
unfolding arcs_below sum_below
sum_by_below share zero arc = refl
sum_by_below share (suc n) arc = omega (arith, sum_by_push share (arcs_below n arc) (arc n), sum_by_below share n arc)

sum_by_links : (share : Arc → ℕ) (needs : List Need) → ((n : Need) → share (link_arc n) ≡ 0) → sum_by share (map link_arc needs) ≡ 0
sum_by_links share [] each = refl
sum_by_links share (n ∷ needs) each = omega (arith, sum_by-cons share (link_arc n) (map link_arc needs), each n, sum_by_links share needs each)

pub sum_network : (t : Terms) (share : Arc → ℕ) → ((n : Need) → share (link_arc n) ≡ 0) → sum_by share (network_of t).arcs ≡ sum_below t.count (λ s. share (leave_arc t s)) + sum_below t.count (λ s. share (stand_arc t s))
sum_network t share each =
    let n : ℕ = t.count in
    let leave : List Arc = arcs_below n (leave_arc t) in
    let stand : List Arc = arcs_below n (stand_arc t) in
    let links : List Arc = map link_arc t.needs in
    omega (arith, sum_by-append share leave (stand ++ links), sum_by-append share stand links, sum_by_below share n (leave_arc t), sum_by_below share n (stand_arc t), sum_by_links share t.needs each)

-- ---- each arc is of one of the three groups

pub arcs_sized : (t : Terms) → length (network_of t).arcs ≡ t.count + (t.count + length t.needs)
arcs_sized t =
    let n : ℕ = t.count in
    let leave : List Arc = arcs_below n (leave_arc t) in
    let stand : List Arc = arcs_below n (stand_arc t) in
    let links : List Arc = map link_arc t.needs in
    omega (arith, length-append leave (stand ++ links), length-append stand links, length_arcs n (leave_arc t), length_arcs n (stand_arc t), length-map t.needs link_arc)

any_arc : Terms → Arc
any_arc t = leave_arc t 0

any_need : Need
any_need = record { step = 0; on = 0 }

leave_get : (t : Terms) (s : ℕ) (d : Arc) → s < t.count → get_or (network_of t).arcs s d ≡ leave_arc t s
leave_get t s d lt =
    get_or_append_left (arcs_below t.count (leave_arc t)) _ d s (omega (arith, length_arcs t.count (leave_arc t), lt)) ∙ arc_at t.count (leave_arc t) s d lt

rest_get : (t : Terms) (k : ℕ) (d : Arc) → t.count ≤ k → get_or (network_of t).arcs k d ≡ get_or (arcs_below t.count (stand_arc t) ++ map link_arc t.needs) (k - t.count) d
rest_get t k d le = get_or-append_right (arcs_below t.count (leave_arc t)) _ t.count k d (length_arcs t.count (leave_arc t)) le

stand_get : (t : Terms) (k : ℕ) (d : Arc) → t.count ≤ k → k - t.count < t.count → get_or (network_of t).arcs k d ≡ stand_arc t (k - t.count)
stand_get t k d le lt =
    rest_get t k d le
    ∙ get_or_append_left (arcs_below t.count (stand_arc t)) _ d (k - t.count) (omega (arith, length_arcs t.count (stand_arc t), lt))
    ∙ arc_at t.count (stand_arc t) (k - t.count) d lt

link_get : (t : Terms) (k : ℕ) (d : Arc) → t.count + t.count ≤ k → k < t.count + (t.count + length t.needs) → get_or (network_of t).arcs k d ≡ link_arc (get_or t.needs (k - t.count - t.count) any_need)
link_get t k d le lt =
    rest_get t k d (omega (arith, le))
    ∙ get_or-append_right (arcs_below t.count (stand_arc t)) (map link_arc t.needs) t.count (k - t.count) d (length_arcs t.count (stand_arc t)) (omega (arith, le))
    ∙ get_or-map link_arc t.needs (k - t.count - t.count) any_need d (omega (arith, le, lt))

-- what holds of the arcs of each group holds of each arc
pub each_arc : (t : Terms) (P : Arc → Type 0) → ((s : ℕ) → s < t.count → P (leave_arc t s)) → ((s : ℕ) → s < t.count → P (stand_arc t s)) → ((i : ℕ) (d : Need) → i < length t.needs → P (link_arc (get_or t.needs i d))) → (k : ℕ) (a : Arc) → slice_get (network_of t).arcs k ≡ Some a → P a
each_arc t P leaves stands links k a at =
    let within : k < t.count + (t.count + length t.needs) = omega (arith, slice_get_within (network_of t).arcs k a at, arcs_sized t) in
    let same : get_or (network_of t).arcs k a ≡ a = same_Some _ _ (sym (slice_get-get_or (network_of t).arcs k a (slice_get_within (network_of t).arcs k a at)) ∙ at) in
    elim (cases_lt k t.count) [
      | inl first ↦ subst P (sym (leave_get t k a first) ∙ same) (leaves k first)
      | inr past ↦ elim (cases_lt (k - t.count) t.count) [
        | inl second ↦ subst P (sym (stand_get t k a (omega (arith, past)) second) ∙ same) (stands (k - t.count) second)
        | inr third ↦
            subst P (sym (link_get t k a (omega (arith, past, third)) within) ∙ same)
            (links (k - t.count - t.count) any_need (omega (arith, past, third, within)))
      ]
    ]

-- where the arcs stand
pub leave_at : (t : Terms) (s : ℕ) → s < t.count → slice_get (network_of t).arcs s ≡ Some (leave_arc t s)
leave_at t s lt =
    slice_get-get_or (network_of t).arcs s (any_arc t) (omega (arith, arcs_sized t, lt)) ∙ ap Some (leave_get t s (any_arc t) lt)

pub stand_at : (t : Terms) (s : ℕ) → s < t.count → slice_get (network_of t).arcs (t.count + s) ≡ Some (stand_arc t s)
stand_at t s lt =
    let e : t.count + s - t.count ≡ s = omega arith in
    slice_get-get_or (network_of t).arcs (t.count + s) (any_arc t) (omega (arith, arcs_sized t, lt))
    ∙ ap Some (stand_get t (t.count + s) (any_arc t) (omega arith) (omega (arith, lt, e)) ∙ ap (stand_arc t) e)

pub link_at : (t : Terms) (i : ℕ) (d : Need) → i < length t.needs → slice_get (network_of t).arcs (t.count + (t.count + i)) ≡ Some (link_arc (get_or t.needs i d))
link_at t i d lt =
    let e : t.count + (t.count + i) - t.count - t.count ≡ i = omega arith in
    slice_get-get_or (network_of t).arcs (t.count + (t.count + i)) (any_arc t) (omega (arith, arcs_sized t, lt))
    ∙ ap Some (link_get t (t.count + (t.count + i)) (any_arc t) (omega arith) (omega (arith, lt))
    ∙ ap (λ j. link_arc (get_or t.needs j any_need)) e
    ∙ ap link_arc (same_Some _ _ (sym (slice_get-get_or t.needs i any_need lt) ∙ slice_get-get_or t.needs i d lt)))
