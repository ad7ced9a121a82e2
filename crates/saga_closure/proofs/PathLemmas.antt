-- Paths of a search: its levels, and steps one level up.
use Rattle.std.proofs.Common.{ℕ, ◌≡◌, ◌<◌, ◌≤◌, ◌+◌, ◌*◌, ◌-◌, ◌∙◌, ◌⊎◌, ◌++◌, [], ◌∷◌, Bool, true, false, cond, min, List, length, get_or, set, get_or-set_same, get_or-set_other, ap, sym, refl, arith, inl, inr, reverse, Some}
use Rattle.std.specs.Prelude.{slice_get}
use Rattle.std.proofs.lemmas.Bool.{cases_eq, cases_lt, ne_eqb}
use Rattle.std.proofs.lemmas.Option.{slice_get-get_or}
use Rattle.saga_def.specs.Neighbours.{a_need}
use Rattle.saga_closure.specs.declared.nets.Residual.{Residual}
use Rattle.saga_closure.specs.Nets.{terms_in}
use Rattle.saga_closure.specs.Links.{IsThinned, NoneBefore}
use Rattle.std.proofs.lemmas.List.{reverse-append}
use Rattle.saga_def.specs.Rules.{AreKnown}
use Rattle.saga_case.specs.Terms.{Terms}
use Rattle.saga_flow.specs.declared.residual_arcs.ResidualArc.{ResidualArc}
use Rattle.saga_flow.specs.declared.nets.Arc.{Arc}
use Rattle.saga_flow.specs.Residual.{Joins, Leads, IsOpen}
use Rattle.saga_flow.specs.Rounds.{IsTrail}
use Rattle.saga_flow.specs.Levels.{Climbs, AreNear, IsLevelled}
use Rattle.saga_closure.specs.CaseNet.{network_of, leave_arc, stand_arc, link_arc}
use Rattle.saga_flow.proofs.LevelLemmas.{rising_climbs}
use Rattle.saga_flow.proofs.PathLemmas.{climbing_rises}
use Rattle.saga_closure.specs.declared.searching.Found.{Found}
use Rattle.saga_closure.specs.declared.searching.Goal.{Goal}
use Rattle.saga_closure.specs.Layers.{GoesIn, GoesOut, Goes, CameBy, IsSearch, IsAtGoal, node_level}
use Rattle.saga_closure.specs.Paths.{tail_of, head_of}
use Rattle.saga_closure.proofs.ArcCases.{need_at, no_need, each_at, each_open, opens_leave, opens_stand, opens_link, opens_unlink}
use Rattle.saga_closure.proofs.SearchLemmas.{order_few, depth_few}
use Rattle.saga_closure.proofs.VisitLemmas.{goes_in, goes_by, GoesBy}

pub level_at : (depth : ℕ) (level : List ℕ) (v : ℕ) → node_level depth level (2 + v) ≡ min (get_or level v 0) (depth + 1) + 1
level_at depth level v =
    let e : 2 + v - 2 ≡ v = omega arith in
    rw (ne_eqb (2 + v) 0 (λ q. omega (arith, q)), ne_eqb (2 + v) 1 (λ q. omega (arith, q)), e) refl

module _ (t : Terms) (on level labelled order : List ℕ) (first end next depth : ℕ) (known : AreKnown t.needs t.count) (search : IsSearch t on level labelled order first end next depth depth) where
  lv : ℕ → ℕ
  lv = node_level depth level

  -- from a step to a step
  near_goes : (v w : ℕ) → v < t.count → w < t.count → Goes t on v w → node_level depth level (2 + w) ≤ node_level depth level (2 + v) + 1
  near_goes v w v_lt w_lt goes = elim (cases_lt (get_or level v 0) depth) [
    | inl less ↦ omega (arith, level_at depth level v, level_at depth level w, search.done v w v_lt w_lt less goes)
    | inr more ↦ omega (arith, level_at depth level v, level_at depth level w)
  ]

  near_in : (v : ℕ) → v < t.count → GoesIn t on v → node_level depth level (2 + v) ≤ 1
  near_in v lt goes = omega (arith, level_at depth level v, search.source v lt goes)

  near_out : (v : ℕ) → v < t.count → GoesOut t on v → depth + 2 ≤ node_level depth level (2 + v) + 1
  near_out v lt goes = elim (cases_lt (get_or level v 0) depth) [
    | inl less ↦ absurd (search.dry v lt less goes)
    | inr more ↦ omega (arith, level_at depth level v)
  ]

  pub near : AreNear (network_of t).arcs on (node_level depth level)
  near = each_open t on (λ a b. node_level depth level b ≤ node_level depth level a + 1)
      (λ v lt room. near_in v lt (record { arc = v; forward = true }, opens_leave t on v lt room))
      (λ v lt. omega arith)
      (λ v lt room. near_out v lt (record { arc = t.count + v; forward = true }, opens_stand t on v lt room))
      (λ v lt. omega (arith, level_at depth level v))
      (λ k lt. near_goes (need_at t k).step (need_at t k).on (known k no_need lt).0 (known k no_need lt).1 (record { arc = t.count + (t.count + k); forward = true }, opens_link t on k lt))
      (λ k lt some. near_goes (need_at t k).on (need_at t k).step (known k no_need lt).1 (known k no_need lt).0 (record { arc = t.count + (t.count + k); forward = false }, opens_unlink t on k lt some))

  pub levelled : IsLevelled (network_of t).arcs on (node_level depth level)
  levelled = record { source = refl; near = near }

  pub low : node_level depth level 1 ≤ (network_of t).nodes
  low = omega (arith, search.deep, search.bounds, order_few t on level labelled order first end next depth depth search)

-- a step that is one level up climbs
pub climbs : (t : Terms) (on level : List ℕ) (depth u v : ℕ) (s : ResidualArc) → IsOpen (network_of t).arcs on s (2 + u) (2 + v) → get_or level v 0 ≡ get_or level u 0 + 1 → get_or level v 0 ≤ depth → Climbs (network_of t).arcs on (node_level depth level) s (2 + u) (2 + v)
climbs t on level depth u v s step up few = (step, omega (arith, level_at depth level u, level_at depth level v))

pub climbs_in : (t : Terms) (on level : List ℕ) (depth v : ℕ) (s : ResidualArc) → IsOpen (network_of t).arcs on s 0 (2 + v) → get_or level v 0 ≡ 0 → Climbs (network_of t).arcs on (node_level depth level) s 0 (2 + v)
climbs_in t on level depth v s step zero_level = (step, omega (arith, level_at depth level v))

pub climbs_out : (t : Terms) (on level : List ℕ) (depth v : ℕ) (s : ResidualArc) → IsOpen (network_of t).arcs on s (2 + v) 1 → get_or level v 0 ≡ depth → Climbs (network_of t).arcs on (node_level depth level) s (2 + v) 1
climbs_out t on level depth v s step at = (step, omega (arith, level_at depth level v))

-- where each step has the lowest level, a path over one step climbs
pub flat : (t : Terms) (on : List ℕ) → IsLevelled (network_of t).arcs on (node_level 0 [])
flat t on = record {
  source = refl;
  near = each_open t on (λ a b. node_level 0 [] b ≤ node_level 0 [] a + 1)
      (λ v lt room. omega (arith, level_at 0 [] v))
      (λ v lt. omega arith)
      (λ v lt room. omega (arith, level_at 0 [] v))
      (λ v lt. omega (arith, level_at 0 [] v))
      (λ k lt. omega (arith, level_at 0 [] (need_at t k).step, level_at 0 [] (need_at t k).on))
      (λ k lt some. omega (arith, level_at 0 [] (need_at t k).step, level_at 0 [] (need_at t k).on));
}

pub straight : (t : Terms) (on : List ℕ) (v : ℕ) → IsOpen (network_of t).arcs on (record { arc = v; forward = true }) 0 (2 + v) → IsOpen (network_of t).arcs on (record { arc = t.count + v; forward = true }) (2 + v) 1 → IsTrail (Climbs (network_of t).arcs on (node_level 0 [])) 0 (record { arc = v; forward = true } ∷ record { arc = t.count + v; forward = true } ∷ []) 1
straight t on v into out =
    (2 + v, climbs_in t on [] 0 v (record { arc = v; forward = true }) into refl, (1, climbs_out t on [] 0 v (record { arc = t.count + v; forward = true }) out refl, refl))

-- a trail that is put together from its end
pub trail_one : (R : ResidualArc → ℕ → ℕ → Type 0) (path : List ResidualArc) (s : ResidualArc) (from to : ℕ) → path ≡ [] → R s from to → IsTrail R from (reverse (path ++ s ∷ [])) to
trail_one R path s from to is step = rw is (to, step, refl)

pub trail_front : (R : ResidualArc → ℕ → ℕ → Type 0) (path : List ResidualArc) (s : ResidualArc) (from mid to : ℕ) → R s from mid → IsTrail R mid (reverse path) to → IsTrail R from (reverse (path ++ s ∷ [])) to
trail_front R path s from mid to step trail = rw (reverse-append path (s ∷ [])) (mid, step, trail)

pub trail_back : (R : ResidualArc → ℕ → ℕ → Type 0) (path : List ResidualArc) (s : ResidualArc) (from to : ℕ) → IsTrail R from (reverse (path ++ s ∷ [])) to → (mid : ℕ) × R s from mid × IsTrail R mid (reverse path) to
trail_back R path s from to trail = rw (reverse-append path (s ∷ [])) at trail

-- how the residual arc of a need leads
abbrev pub JoinsLink : Terms → ℕ → Arc → Type 0
JoinsLink t k a = (way : Bool) (x y : ℕ) → Joins way a x y → (2 * t.count ≤ k ⊎ (x ≡ 0) ⊎ (y ≡ 0) ⊎ (x ≡ 1) ⊎ (y ≡ 1)) × (2 * t.count ≤ k → (k < t.count + (t.count + length t.needs)) × (x ≡ 2 + cond way (need_at t (k - 2 * t.count)).step (need_at t (k - 2 * t.count)).on) × (y ≡ 2 + cond way (need_at t (k - 2 * t.count)).on (need_at t (k - 2 * t.count)).step))

joins_link : (t : Terms) (k : ℕ) (a : Arc) → slice_get (network_of t).arcs k ≡ Some a → JoinsLink t k a
joins_link t = each_at t (JoinsLink t) over_leave over_stand over_link
  where
    over_leave : (v : ℕ) → v < t.count → JoinsLink t v (leave_arc t v)
    over_leave v lt true x y joins = (inr (inl (sym joins.0)), λ le. absurd (omega arith))
    over_leave v lt false x y joins = (inr (inr (inl (sym joins.1))), λ le. absurd (omega arith))

    over_stand : (v : ℕ) → v < t.count → JoinsLink t (t.count + v) (stand_arc t v)
    over_stand v lt true x y joins = (inr (inr (inr (inr (sym joins.1)))), λ le. absurd (omega arith))
    over_stand v lt false x y joins = (inr (inr (inr (inl (sym joins.0)))), λ le. absurd (omega arith))

    over_link : (i : ℕ) → i < length t.needs → JoinsLink t (t.count + (t.count + i)) (link_arc (need_at t i))
    over_link i lt true x y joins =
        let e : t.count + (t.count + i) - 2 * t.count ≡ i = omega arith in
        (inl (omega arith), λ le. (omega arith, rw e (sym joins.0), rw e (sym joins.1)))
    over_link i lt false x y joins =
        let e : t.count + (t.count + i) - 2 * t.count ≡ i = omega arith in
        (inl (omega arith), λ le. (omega arith, rw e (sym joins.0), rw e (sym joins.1)))

-- a step between steps is over a need
pub is_link : (t : Terms) (s : ResidualArc) (u v : ℕ) → Leads (network_of t).arcs s (2 + u) (2 + v) → (2 * t.count ≤ s.arc) × (s.arc < t.count + (t.count + length t.needs)) × (u ≡ tail_of t s) × (v ≡ head_of t s)
is_link t s u v (a, at, joins) =
    let one = joins_link t s.arc a at s.forward (2 + u) (2 + v) joins in
    let far : 2 * t.count ≤ s.arc = elim one.0 [ inl le ↦ le | inr rest ↦ elim rest [ inl q ↦ absurd (omega arith) | inr rest ↦ elim rest [ inl q ↦ absurd (omega arith) | inr rest ↦ elim rest [ inl q ↦ absurd (omega arith) | inr q ↦ absurd (omega arith) ] ] ] ] in
    let two = one.1 far in
    (far, two.0, omega (arith, two.1), omega (arith, two.2))

-- and one over a need leads to its head
pub link_head : (t : Terms) (s : ResidualArc) (x y : ℕ) → Leads (network_of t).arcs s x y → 2 * t.count ≤ s.arc → (s.arc < t.count + (t.count + length t.needs)) × (y ≡ 2 + head_of t s)
link_head t s x y (a, at, joins) far =
    let two = (joins_link t s.arc a at s.forward x y joins).1 far in
    (two.0, two.2)

module _ (t : Terms) (on : List ℕ) (found : Found) (goal : Goal) (v : ℕ) (at : IsAtGoal t on found goal) (lt : v < t.count) where
  -- a step above the lowest level came from one a level lower
  pub came_from : 0 < get_or found.level.items v 0 → get_or found.level.items v 0 ≤ goal.depth → (u : ℕ) × (u < t.count) × Goes t on u v × (get_or found.level.items v 0 ≡ get_or found.level.items u 0 + 1)
  came_from some few = from (at.search.back v lt (omega (arith, few, depth_few t on found.level.items found.labelled.items found.order.items goal.first (length found.order.items) goal.first goal.depth goal.depth at.search)))
    where
      from : CameBy t on found.level.items v → (u : ℕ) × (u < t.count) × Goes t on u v × (get_or found.level.items v 0 ≡ get_or found.level.items u 0 + 1)
      from (inl (zero_level, goes)) = absurd (omega arith)
      from (inr came) = came

  -- one of the lowest level can get more from the source
  pub came_in : get_or found.level.items v 0 ≡ 0 → IsOpen (network_of t).arcs on (record { arc = v; forward = true }) 0 (2 + v)
  came_in is = from (at.search.back v lt (omega arith))
    where
      from : CameBy t on found.level.items v → IsOpen (network_of t).arcs on (record { arc = v; forward = true }) 0 (2 + v)
      from (inl (zero_level, goes)) = opens_leave t on v lt (goes_in t on v 0 goes).1
      from (inr (u, u_lt, step, up)) = absurd (omega arith)

-- so a step from which nothing is a level lower is of the lowest level
pub none_lowest : (r : Residual) (found : Found) (goal : Goal) (v : ℕ) → IsAtGoal (terms_in r.net.now) r.on.now found goal → v < (terms_in r.net.now).count → 0 < get_or found.level.items v 0 → get_or found.level.items v 0 ≤ goal.depth → ((forward : Bool) → NoneBefore r (get_or found.level.items v 0) found.level.items forward v) → ⊥
none_lowest r found goal v at lt some few none_before =
    let came = came_from (terms_in r.net.now) r.on.now found goal v at lt some few in
    from came.0 came.3 (goes_by (terms_in r.net.now) r.on.now came.0 v came.2)
  where
    needed : (k b a : ℕ) → k < length (terms_in r.net.now).needs → (need_at (terms_in r.net.now) k).step ≡ b → (need_at (terms_in r.net.now) k).on ≡ a → slice_get (terms_in r.net.now).needs k ≡ Some (a_need b a)
    needed k b a lt from to = slice_get-get_or (terms_in r.net.now).needs k no_need lt ∙ ap Some (rw (← from, ← to) refl)

    from : (u : ℕ) → get_or found.level.items v 0 ≡ get_or found.level.items u 0 + 1 → GoesBy (terms_in r.net.now) r.on.now u v → ⊥
    from u up (inl (k, k_lt, a, b)) = none_before true k u (needed k u v k_lt a b) (inl refl) up
    from u up (inr (k, k_lt, a, b, some)) = none_before false k u (needed k v u k_lt b a) (inr some) up

-- a level that a walk comes down to is that of the step
pub thin_lower : (level alive : List ℕ) (v u depth : ℕ) → IsThinned level alive → get_or level v 0 ≡ get_or alive u 0 + 1 → get_or level v 0 ≤ depth → depth ≤ 1024 → get_or level v 0 ≡ get_or level u 0 + 1
thin_lower level alive v u depth thinned up low few = elim (thinned u) [
  | inl e ↦ omega (arith, up, e)
  | inr e ↦ absurd (omega (arith, up, e, low, few))
]

pub thin_more : (level alive : List ℕ) (v : ℕ) → v < length alive → IsThinned level alive → IsThinned level (set alive v 65535)
thin_more level alive v lt thinned x = elim (cases_eq x v) [
  | inl e ↦ inr (rw e (get_or-set_same alive v 65535 0 lt))
  | inr ne ↦ elim (thinned x) [
    | inl same ↦ inl (get_or-set_other alive v x 65535 0 ne ∙ same)
    | inr gone ↦ inr (get_or-set_other alive v x 65535 0 ne ∙ gone)
  ]
]

-- where a climbing trail begins is below its end
pub trail_low : (t : Terms) (on level : List ℕ) (depth h : ℕ) (steps : List ResidualArc) → IsTrail (Climbs (network_of t).arcs on (node_level depth level)) (2 + h) steps 1 → get_or level h 0 ≤ depth
trail_low t on level depth h [] trail = absurd (omega (arith, trail))
trail_low t on level depth h (s ∷ steps) trail =
    let climb = rising_climbs (network_of t).arcs (node_level depth level) (s ∷ steps) (2 + h) 1 (climbing_rises (network_of t).arcs on (node_level depth level) (s ∷ steps) (2 + h) 1 trail) in
    omega (arith, climb, level_at depth level h)

-- the last step that was put in front is taken off again
pub trail_pop : (t : Terms) (on level : List ℕ) (depth v : ℕ) (path before : List ResidualArc) (s : ResidualArc) → AreKnown t.needs t.count → path ≡ before ++ s ∷ [] → IsTrail (Climbs (network_of t).arcs on (node_level depth level)) (2 + v) (reverse path) 1 → 2 * t.count ≤ s.arc → (s.arc < t.count + (t.count + length t.needs)) × (get_or level (head_of t s) 0 ≤ depth) × IsTrail (Climbs (network_of t).arcs on (node_level depth level)) (2 + head_of t s) (reverse before) 1
trail_pop t on level depth v path before s known is trail far =
    let parts = trail_back (Climbs (network_of t).arcs on (node_level depth level)) before s (2 + v) 1 (rw is at trail) in
    let link = link_head t s (2 + v) parts.0 parts.1.0.0 far in
    let rest = rw link.1 at parts.2 in
    (link.0, trail_low t on level depth (head_of t s) (reverse before) rest, rest)
