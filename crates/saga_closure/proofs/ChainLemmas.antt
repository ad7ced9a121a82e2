-- Chains of needs by a search of empty amounts, where only capacities without a bound count.
use Rattle.std.proofs.Common.{ℕ, ◌≡◌, ◌<◌, ◌≤◌, ◌+◌, ◌-◌, ◌^◌, ◌∙◌, ◌++◌, [], ◌∷◌, true, List, Some, length, get_or, map, replicate, reverse, ap, sym, subst, refl, arith, inl, inr}
use Rattle.std.specs.Prelude.{All}
use Rattle.std.proofs.lemmas.Bool.{cases_eq, cases_lt, eq-eqb, ne_eqb}
use Rattle.std.proofs.lemmas.List.{length-append, length-reverse, get_or-reverse, get_or_push, get_or_append_left, get_or-map, length-map, get_or_past, get_or-replicate, length-replicate}
use Rattle.std.proofs.lemmas.Option.{slice_get-get_or}
use Rattle.saga_def.specs.Contents.{Contents}
use Rattle.saga_def.specs.Order.{NeedsDirectly}
use Rattle.saga_def.specs.declared.steps.Price.TheVariants as price
use Rattle.saga_case.specs.Terms.{Terms}
use Rattle.saga_case.specs.Right.{IsRightChain}
use Rattle.saga_flow.specs.declared.nets.Cap.TheVariants as cap
use Rattle.saga_flow.specs.declared.residual_arcs.ResidualArc.{ResidualArc}
use Rattle.saga_flow.specs.Reached.{HasUnbounded, Reaches, here, next}
use Rattle.saga_flow.specs.Residual.{IsOpen, IsResidual}
use Rattle.saga_closure.specs.Capacities.{endless, price_of, room_of, room_at, terms_by, AreCapacities}
use Rattle.saga_closure.specs.CaseNet.{network_of}
use Rattle.saga_closure.specs.Chains.{IsChainTo}
use Rattle.saga_closure.specs.Layers.{GoesIn, GoesOut}
use Rattle.saga_closure.proofs.ArcCases.{no_need, each_at, opens_link}
use Rattle.saga_closure.proofs.NeighbourLemmas.{has_need}
use Rattle.saga_closure.proofs.NetLemmas.{own_capacities, price_never, never_price, unbounded_never}
use Rattle.saga_closure.proofs.VisitLemmas.{goes_by, in_from_room, room_from_in, out_from_room, room_from_out}

-- ---- a chain that is put together from its end

-- from a step that was come to, back to where the chain began
pub record IsBackChain (t : Terms) (goal v : ℕ) (chain : List ℕ) : Type 0 where
  pub some : 0 < length chain
  pub known : All (λ s. s < t.count) chain
  pub first : get_or chain 0 0 ≡ goal
  pub last : get_or chain (length chain - 1) 0 ≡ v
  pub linked : (k : ℕ) → k + 1 < length chain → NeedsDirectly t.needs (get_or chain (k + 1) 0) (get_or chain k 0)

pub back_one : (t : Terms) (goal : ℕ) (chain : List ℕ) → goal < t.count → chain ≡ goal ∷ [] → IsBackChain t goal goal chain
back_one t goal chain lt is = rw is (record {
  some = omega arith;
  known = λ k x short. let e : k ≡ 0 = omega (arith, short) in rw e lt;
  first = refl;
  last = refl;
  linked = λ k short. absurd (omega (arith, short));
})

pub back_more : (t : Terms) (goal v u : ℕ) (chain : List ℕ) → IsBackChain t goal v chain → u < t.count → NeedsDirectly t.needs u v → IsBackChain t goal u (chain ++ u ∷ [])
back_more t goal v u chain back lt needs =
    let longer : length (chain ++ u ∷ []) ≡ length chain + 1 = length-append chain (u ∷ []) in
    let place : (k d : ℕ) → k < length chain → get_or (chain ++ u ∷ []) k d ≡ get_or chain k d = λ k d short. get_or_append_left chain (u ∷ []) d k short in
    let end : (k d : ℕ) → k ≡ length chain → get_or (chain ++ u ∷ []) k d ≡ u = λ k d e. get_or_push chain u d k (sym e) in
    record {
      some = omega (arith, longer);
      known = λ k d short. elim (cases_lt k (length chain)) [
        | inl less ↦ rw (place k d less) (back.known k d less)
        | inr more ↦ rw (end k d (omega (arith, short, longer, more))) lt
      ];
      first = place 0 0 back.some ∙ back.first;
      last = end (length (chain ++ u ∷ []) - 1) 0 (omega (arith, longer));
      linked = λ k short. elim (cases_lt (k + 1) (length chain)) [
        | inl less ↦ rw (place (k + 1) 0 less, place k 0 (omega (arith, less))) (back.linked k less)
        | inr more ↦
            let e : k ≡ length chain - 1 = omega (arith, short, longer, more, back.some) in
            rw (end (k + 1) 0 (omega (arith, e, back.some)), place k 0 (omega (arith, e, back.some)), e, back.last) needs
      ];
    }

pub back_turned : (t : Terms) (on : List ℕ) (goal v : ℕ) (chain : List ℕ) → IsBackChain t goal v chain → GoesIn t on v → IsChainTo t on goal (reverse chain)
back_turned t on goal v chain back goes =
    let sized : length (reverse chain) ≡ length chain = length-reverse chain in
    let turn : (k d : ℕ) → k < length chain → get_or (reverse chain) k d ≡ get_or chain (length chain - 1 - k) d = λ k d lt. get_or-reverse chain k d lt in
    record {
      steps = record {
        some = omega (arith, sized, back.some);
        known = λ k d short. rw (turn k d (omega (arith, short, sized))) (back.known (length chain - 1 - k) d (omega (arith, short, sized)));
      };
      linked = record {
        each = λ k short.
            let e : length chain - 1 - (k + 1) + 1 ≡ length chain - 1 - k = omega (arith, short, sized) in
            rw (turn k 0 (omega (arith, short, sized)), turn (k + 1) 0 (omega (arith, short, sized)))
            (rw e at (back.linked (length chain - 1 - (k + 1)) (omega (arith, short, sized))));
      };
      first =
          let e : length chain - 1 - 0 ≡ length chain - 1 = omega arith in
          subst (GoesIn t on) (sym (turn 0 0 back.some ∙ ap (λ k. get_or chain k 0) e ∙ back.last)) goes;
      last =
          let e : length chain - 1 - (length (reverse chain) - 1) ≡ 0 = omega (arith, sized) in
          turn (length (reverse chain) - 1) 0 (omega (arith, sized, back.some)) ∙ ap (λ k. get_or chain k 0) e ∙ back.first;
    }

-- a step between steps is along a need where no arc carries anything
pub needs_open : (t : Terms) (on : List ℕ) (s : ResidualArc) (u v : ℕ) → ((k : ℕ) → get_or on k 0 ≡ 0) → IsOpen (network_of t).arcs on s (2 + u) (2 + v) → NeedsDirectly t.needs u v
needs_open t on s u v empty step = elim (goes_by t on u v (s, step)) [
  | inl (k, lt, from, to) ↦ has_need t.needs k u v (slice_get-get_or t.needs k no_need lt ∙ ap Some (rw (← from, ← to) refl))
  | inr (k, lt, from, to, some) ↦ absurd (omega (arith, some, empty (t.count + (t.count + k))))
]

-- empty amounts
pub zeros_empty : (n k : ℕ) → ◌≡◌ {A = ℕ} (get_or (replicate n 0) k 0) 0
zeros_empty n k = elim (cases_lt k n) [
  | inl less ↦ get_or-replicate n k 0 0 less
  | inr past ↦ get_or_past (replicate n 0) k 0 (omega (arith, past, length-replicate {A = ℕ} n 0))
]

-- ---- capacities without a bound alone

module _ (d : Contents) (caps on : List ℕ) (sized : length caps ≡ length d.steps + length d.steps) (small : (k : ℕ) → get_or caps k 0 ≤ 2 ^ 63) (empty : (k : ℕ) → get_or on k 0 ≡ 0) where
  only : List ℕ
  only = map endless caps

  only_at : (k : ℕ) → k < length caps → get_or (map endless caps) k 0 ≡ endless (get_or caps k 0)
  only_at k lt = get_or-map endless caps k 0 0 lt

  pub only_sized : length (map endless caps) ≡ length d.steps + length d.steps
  only_sized = length-map caps endless ∙ sized

  endless_small : (x : ℕ) → endless x ≤ 2 ^ 63
  endless_small x = elim (cases_eq x (2 ^ 63)) [
    | inl e ↦ rw (eq-eqb x (2 ^ 63) e) (omega arith)
    | inr ne ↦ rw (ne_eqb x (2 ^ 63) ne) (omega arith)
  ]

  pub only_small : (k : ℕ) → get_or (map endless caps) k 0 ≤ 2 ^ 63
  only_small k = elim (cases_lt k (length caps)) [
    | inl less ↦ rw (only_at k less) (endless_small (get_or caps k 0))
    | inr past ↦ omega (arith, get_or_past (map endless caps) k 0 (omega (arith, past, length-map caps endless)))
  ]

  only_are : AreCapacities (terms_by d (map endless caps)) (map endless caps)
  only_are = own_capacities d (map endless caps) only_sized only_small

  room_some : (x y : ℕ) → 0 < room_of (endless x) y → x ≡ 2 ^ 63
  room_some x y some = elim (cases_eq x (2 ^ 63)) [
    | inl e ↦ e
    | inr ne ↦ absurd (omega (arith, (rw (ne_eqb x (2 ^ 63) ne) at some)))
  ]

  room_all : (x y : ℕ) → x ≡ 2 ^ 63 → 0 < room_of (endless x) y
  room_all x y is = rw (eq-eqb x (2 ^ 63) is) (omega arith)

  never_at : (k : ℕ) → k < length caps → 0 < room_at (map endless caps) on k → price_of (get_or caps k 0) ≡ price.Never
  never_at k lt some = price_never (get_or caps k 0) (room_some (get_or caps k 0) (get_or on k 0) (rw (only_at k lt) at some))

  some_at : (k : ℕ) → k < length caps → price_of (get_or caps k 0) ≡ price.Never → 0 < room_at (map endless caps) on k
  some_at k lt is = rw (only_at k lt) (room_all (get_or caps k 0) (get_or on k 0) (never_price (get_or caps k 0) is))

  -- a chain that the source can send more to and that can send more to the sink
  pub chain_right : (goal : ℕ) (chain : List ℕ) → goal < length d.steps → GoesOut (terms_by d (map endless caps)) on goal → IsChainTo (terms_by d (map endless caps)) on goal chain → IsRightChain (terms_by d caps) chain
  chain_right goal chain lt out made =
      let t : Terms = terms_by d (map endless caps) in
      let first : get_or chain 0 0 < length d.steps = made.steps.known 0 0 made.steps.some in
      record {
        steps = record { some = made.steps.some; known = made.steps.known };
        forced = never_at (get_or chain 0 0) (omega (arith, first, sized)) (room_from_in t (map endless caps) on (get_or chain 0 0) only_are made.first);
        linked = record { each = made.linked.each };
        forbidden = rw made.last (never_at (length d.steps + goal) (omega (arith, lt, sized)) (room_from_out t (map endless caps) on goal only_are out));
      }

  -- an unbounded arc is one of the residual network
  open_unbounded : (u v : ℕ) → HasUnbounded (network_of (terms_by d caps)).arcs u v → IsResidual (network_of (terms_by d (map endless caps))).arcs on u v
  open_unbounded u v (k, a, at, from, to, is) =
      let t : Terms = terms_by d (map endless caps) in
      rw (← from, ← to) (each_at (terms_by d caps) (λ k a. a.cap ≡ cap.Unbounded → IsResidual (network_of t).arcs on a.from a.to)
      (λ x lt e. in_from_room t (map endless caps) on x only_are lt (some_at x (omega (arith, lt, sized)) (unbounded_never _ e)))
      (λ x lt e. (record { arc = length d.steps + x; forward = true }, out_from_room t (map endless caps) on x only_are lt (some_at (length d.steps + x) (omega (arith, lt, sized)) (unbounded_never _ e))))
      (λ i lt e. (record { arc = length d.steps + (length d.steps + i); forward = true }, opens_link t on i lt))
      k a at is)

  pub apart_from_search : (Reaches (IsResidual (network_of (terms_by d (map endless caps))).arcs on) 0 1 → ⊥) → Reaches (HasUnbounded (network_of (terms_by d caps)).arcs) 0 1 → ⊥
  apart_from_search shut path = shut (each_reached 1 path)
    where
      each_reached : (v : ℕ) → Reaches (HasUnbounded (network_of (terms_by d caps)).arcs) 0 v → Reaches (IsResidual (network_of (terms_by d (map endless caps))).arcs on) 0 v
      each_reached v here = here
      each_reached v (next {mid} r arc) = next (each_reached mid r) (open_unbounded mid v arc)

-- where no step has to stand, no unbounded arc leaves the source
pub apart_from_start : (d : Contents) (caps : List ℕ) → ((s : ℕ) → s < length d.steps → get_or caps s 0 ≡ 2 ^ 63 → ⊥) → Reaches (HasUnbounded (network_of (terms_by d caps)).arcs) 0 1 → ⊥
apart_from_start d caps none path = omega (arith, only_source 1 path)
  where
    shut : (u v : ℕ) → HasUnbounded (network_of (terms_by d caps)).arcs u v → u ≡ 0 → ⊥
    shut u v (k, a, at, from, to, is) source =
        each_at (terms_by d caps) (λ k a. a.cap ≡ cap.Unbounded → a.from ≡ 0 → ⊥)
        (λ x lt e q. none x lt (never_price (get_or caps x 0) (unbounded_never _ e)))
        (λ x lt e q. absurd (omega (arith, q)))
        (λ i lt e q. absurd (omega (arith, q)))
        k a at is (from ∙ source)

    only_source : (v : ℕ) → Reaches (HasUnbounded (network_of (terms_by d caps)).arcs) 0 v → v ≡ 0
    only_source v here = refl
    only_source v (next {mid} r arc) = absurd (shut mid v arc (only_source mid r))
