-- Paths over a need and the two steps that it joins, where no path is shorter.
use Rattle.std.proofs.Common.{ℕ, ◌≡◌, ◌≢◌, ◌<◌, ◌≤◌, ◌+◌, ◌-◌, ◌∙◌, [], ◌∷◌, true, List, length, get_or, set, get_or-set_same, get_or-set_other, length-set, ap, sym, refl, arith, inl, inr, min, ◌^◌}
use Rattle.std.specs.Prelude.{nat_lt, if◌then◌else◌, ◌==◌, All}
use Rattle.std.proofs.lemmas.Bool.{cases_eq, ne_eqb, lt-ltb}
use Rattle.std.proofs.lemmas.Option.{same_Some}
use Rattle.saga_case.specs.Terms.{Terms}
use Rattle.saga_flow.specs.declared.residual_arcs.ResidualArc.{ResidualArc}
use Rattle.saga_flow.specs.declared.nets.Cap.{Cap}
use Rattle.saga_flow.specs.declared.nets.Cap.TheVariants as cap
use Rattle.saga_flow.specs.Flows.{IsWithin}
use Rattle.saga_flow.specs.Pushes.{IsPush}
use Rattle.saga_flow.specs.Residual.{Carries, IsOpen}
use Rattle.saga_flow.specs.Rounds.{IsTrail, pushed}
use Rattle.saga_flow.specs.Levels.{Climbs}
use Rattle.saga_flow.proofs.PushLemmas.{pushed_other, All-cons}
use Rattle.saga_closure.specs.Apart.{IsApart, IsOneSided}
use Rattle.saga_closure.specs.Capacities.{AreCapacities, room_at}
use Rattle.saga_closure.specs.CaseNet.{network_of, leave_arc, stand_arc, link_arc, cap_of}
use Rattle.saga_closure.specs.Layers.{no_step}
use Rattle.saga_closure.proofs.ArcCases.{no_need, need_at, each_open, opens_leave, opens_stand}
use Rattle.saga_closure.proofs.ArcLemmas.{leave_at, stand_at, link_at}
use Rattle.saga_closure.proofs.RoomLemmas.{leave_room, stand_room}

-- ---- levels by the sides of the steps

-- the source, the steps to which it can send more, the others, and the sink
abbrev side_level : List ℕ → List ℕ → ℕ → ℕ
side_level caps on node = if node == 0 then 0 else (if node == 1 then 3 else (if nat_lt 0 (room_at caps on (node - 2)) then 1 else 2))

side_at : (caps on : List ℕ) (v : ℕ) → side_level caps on (2 + v) ≡ (if nat_lt 0 (room_at caps on v) then 1 else 2)
side_at caps on v =
    let e : 2 + v - 2 ≡ v = omega arith in
    rw (ne_eqb (2 + v) 0 (λ q. omega (arith, q)), ne_eqb (2 + v) 1 (λ q. omega (arith, q)), e) refl

side_some : (caps on : List ℕ) (v : ℕ) → 0 < room_at caps on v → side_level caps on (2 + v) ≡ 1
side_some caps on v some = side_at caps on v ∙ rw (lt-ltb 0 (room_at caps on v) some) refl

side_none : (caps on : List ℕ) (v : ℕ) → room_at caps on v ≡ 0 → side_level caps on (2 + v) ≡ 2
side_none caps on v is = side_at caps on v ∙ rw is refl

side_few : (caps on : List ℕ) (v : ℕ) → (1 ≤ side_level caps on (2 + v)) × (side_level caps on (2 + v) ≤ 2)
side_few caps on v = elim (cases_eq (room_at caps on v) 0) [
  | inl e ↦ (omega (arith, side_none caps on v e), omega (arith, side_none caps on v e))
  | inr ne ↦ let some : 0 < room_at caps on v = omega (arith, ne) in (omega (arith, side_some caps on v some), omega (arith, side_some caps on v some))
]

-- where each step has one side, each path has three arcs
pub sides_apart : (t : Terms) (caps on : List ℕ) → AreCapacities t caps → ((v : ℕ) → v < t.count → IsOneSided caps on t.count v) → IsApart (network_of t).arcs on 3
sides_apart t caps on are sides = record {
  level = side_level caps on;
  levelled = record {
    source = refl;
    near = each_open t on (λ a b. side_level caps on b ≤ side_level caps on a + 1)
        (λ v lt room. omega (arith, side_some caps on v ((leave_room t caps on v are lt).shut room)))
        (λ v lt. omega arith)
        (λ v lt room. out v lt ((stand_room t caps on v are lt).shut room))
        (λ v lt. omega (arith, side_few caps on v))
        (λ k lt. omega (arith, side_few caps on (need_at t k).step, side_few caps on (need_at t k).on))
        (λ k lt some. omega (arith, side_few caps on (need_at t k).step, side_few caps on (need_at t k).on));
  };
  sink = refl;
}
  where
    out : (v : ℕ) → v < t.count → 0 < room_at caps on (t.count + v) → 3 ≤ side_level caps on (2 + v) + 1
    out v lt some = elim (sides v lt) [
      | inl is ↦ omega (arith, side_none caps on v is)
      | inr is ↦ absurd (omega (arith, is, some))
    ]

-- ---- a path of three arcs

abbrev pub by_need : ℕ → ℕ → ℕ → List ResidualArc
by_need into over out = record { arc = into; forward = true } ∷ record { arc = over; forward = true } ∷ record { arc = out; forward = true } ∷ []

-- it climbs
pub climbs_by : (t : Terms) (on : List ℕ) (v u into over out : ℕ) (apart : IsApart (network_of t).arcs on 3) → IsOpen (network_of t).arcs on (record { arc = into; forward = true }) 0 (2 + v) → IsOpen (network_of t).arcs on (record { arc = over; forward = true }) (2 + v) (2 + u) → IsOpen (network_of t).arcs on (record { arc = out; forward = true }) (2 + u) 1 → IsTrail (Climbs (network_of t).arcs on apart.level) 0 (by_need into over out) 1
climbs_by t on v u into over out apart first second third =
    let near = apart.levelled.near in
    let a = near (record { arc = into; forward = true }) 0 (2 + v) first in
    let b = near (record { arc = over; forward = true }) (2 + v) (2 + u) second in
    let c = near (record { arc = out; forward = true }) (2 + u) 1 third in
    (2 + v, (first, omega (arith, a, b, c, apart.sink, apart.levelled.source)), (2 + u, (second, omega (arith, a, b, c, apart.sink, apart.levelled.source)), (1, (third, omega (arith, a, b, c, apart.sink, apart.levelled.source)), refl)))

-- ---- after what goes straight over a step

abbrev pub over_step : ℕ → ℕ → List ResidualArc
over_step into out = record { arc = into; forward = true } ∷ record { arc = out; forward = true } ∷ []

module _ (t : Terms) (caps on after : List ℕ) (v more : ℕ) (are : AreCapacities t caps) (lt : v < t.count) (long : t.count + t.count ≤ length on) (adds : after ≡ pushed on (over_step v (t.count + v)) more) where
  pub straight_others : (k : ℕ) → k ≢ v → k ≢ t.count + v → get_or after k 0 ≡ get_or on k 0
  straight_others k ne_in ne_out =
      ap (λ (xs : List ℕ). get_or xs k 0) adds
      ∙ pushed_other on (over_step v (t.count + v)) more k
      (All-cons (λ (s : ResidualArc). s.arc ≢ k) (record { arc = v; forward = true }) (record { arc = t.count + v; forward = true } ∷ []) (λ q. ne_in (sym q))
      (All-cons (λ (s : ResidualArc). s.arc ≢ k) (record { arc = t.count + v; forward = true }) [] (λ q. ne_out (sym q)) (λ i d h. absurd (omega arith))))

  here_in : get_or after v 0 ≡ get_or on v 0 + more
  here_in =
      let inner : List ℕ = set on v (get_or on v 0 + more) in
      ap (λ (xs : List ℕ). get_or xs v 0) adds
      ∙ get_or-set_other inner (t.count + v) v (get_or inner (t.count + v) 0 + more) 0 (λ q. absurd (omega (arith, q, lt)))
      ∙ get_or-set_same on v (get_or on v 0 + more) 0 (omega (arith, lt, long))

  here_out : get_or after (t.count + v) 0 ≡ get_or on (t.count + v) 0 + more
  here_out =
      let inner : List ℕ = set on v (get_or on v 0 + more) in
      let other : get_or inner (t.count + v) 0 ≡ get_or on (t.count + v) 0 = get_or-set_other on v (t.count + v) (get_or on v 0 + more) 0 (λ q. absurd (omega (arith, q, lt))) in
      ap (λ (xs : List ℕ). get_or xs (t.count + v) 0) adds
      ∙ get_or-set_same inner (t.count + v) (get_or inner (t.count + v) 0 + more) 0 (omega (arith, lt, long, length-set on v (get_or on v 0 + more)))
      ∙ ap (λ x. x + more) other

  -- the step has one side
  pub straight_sided : (All (Carries (network_of t).arcs on (more + 1)) (over_step v (t.count + v)) → ⊥) → IsOneSided caps after t.count v
  straight_sided most = elim (cases_eq (room_at caps after v) 0) [
    | inl is ↦ inl is
    | inr some_in ↦ elim (cases_eq (room_at caps after (t.count + v)) 0) [
      | inl is ↦ inr is
      | inr some_out ↦ absurd (most
          (All-cons (Carries (network_of t).arcs on (more + 1)) (record { arc = v; forward = true }) (record { arc = t.count + v; forward = true } ∷ []) (leave_arc t v, leave_at t v lt, goes_in ((leave_room t caps after v are lt).one (omega (arith, some_in))))
          (All-cons (Carries (network_of t).arcs on (more + 1)) (record { arc = t.count + v; forward = true }) [] (stand_arc t v, stand_at t v lt, goes_out ((stand_room t caps after v are lt).one (omega (arith, some_out)))) (λ i d h. absurd (omega arith)))))
    ]
  ]
    where
      goes_in : IsWithin (get_or after v 0 + 1) (cap_of (t.leave v)) → IsWithin (get_or on v 0 + (more + 1)) (cap_of (t.leave v))
      goes_in within =
          let e : get_or after v 0 + 1 ≡ get_or on v 0 + (more + 1) = omega (arith, here_in) in
          rw e at within

      goes_out : IsWithin (get_or after (t.count + v) 0 + 1) (cap_of (t.stand v)) → IsWithin (get_or on (t.count + v) 0 + (more + 1)) (cap_of (t.stand v))
      goes_out within =
          let e : get_or after (t.count + v) 0 + 1 ≡ get_or on (t.count + v) 0 + (more + 1) = omega (arith, here_out) in
          rw e at within

-- what goes over another step leaves the step as it is
pub sided_on : (caps on after : List ℕ) (count v w : ℕ) → v < count → w < count → w ≢ v → ((k : ℕ) → k ≢ v → k ≢ count + v → get_or after k 0 ≡ get_or on k 0) → IsOneSided caps on count w → IsOneSided caps after count w
sided_on caps on after count v w v_lt w_lt ne others sided =
    let first : get_or after w 0 ≡ get_or on w 0 = others w ne (λ q. absurd (omega (arith, q, w_lt))) in
    let second : get_or after (count + w) 0 ≡ get_or on (count + w) 0 = others (count + w) (λ q. absurd (omega (arith, q, v_lt))) (λ q. ne (omega (arith, q))) in
    elim sided [
      | inl is ↦ inl (rw first is)
      | inr is ↦ inr (rw second is)
    ]

-- ---- the greatest amount along a path over a step, or over a need

within_less : (cap : Cap) (x y : ℕ) → x ≤ y → IsWithin y cap → IsWithin x cap
within_less (cap.Of c) x y le within = omega (arith, le, within)
within_less cap.Unbounded x y le within = tt

module _ (t : Terms) (caps on : List ℕ) (v u more : ℕ) (are : AreCapacities t caps) (v_lt : v < t.count) (u_lt : u < t.count) (is : more ≡ min (room_at caps on v) (room_at caps on (t.count + u))) (some : 0 < more) where
  some_in : 0 < room_at caps on v
  some_in = omega (arith, is, some)

  some_out : 0 < room_at caps on (t.count + u)
  some_out = omega (arith, is, some)

  pub goes_on_in : IsOpen (network_of t).arcs on (record { arc = v; forward = true }) 0 (2 + v)
  goes_on_in = opens_leave t on v v_lt ((leave_room t caps on v are v_lt).one some_in)

  pub goes_on_out : IsOpen (network_of t).arcs on (record { arc = t.count + u; forward = true }) (2 + u) 1
  goes_on_out = opens_stand t on u u_lt ((stand_room t caps on u are u_lt).one some_out)

  into_carries : Carries (network_of t).arcs on more (record { arc = v; forward = true })
  into_carries = (leave_arc t v, leave_at t v v_lt, within_less (cap_of (t.leave v)) (get_or on v 0 + more) (get_or on v 0 + room_at caps on v) (omega (arith, is)) ((leave_room t caps on v are v_lt).goes some_in))

  out_carries : Carries (network_of t).arcs on more (record { arc = t.count + u; forward = true })
  out_carries = (stand_arc t u, stand_at t u u_lt, within_less (cap_of (t.stand u)) (get_or on (t.count + u) 0 + more) (get_or on (t.count + u) 0 + room_at caps on (t.count + u)) (omega (arith, is)) ((stand_room t caps on u are u_lt).goes some_out))

  -- no more than that goes along both arcs
  least_most : more < 2 ^ 63 → Carries (network_of t).arcs on (more + 1) (record { arc = v; forward = true }) → Carries (network_of t).arcs on (more + 1) (record { arc = t.count + u; forward = true }) → ⊥
  least_most small (a, at_a, within_a) (b, at_b, within_b) = elim (cases_eq more (room_at caps on v)) [
    | inl e ↦
        let same : a ≡ leave_arc t v = same_Some _ _ (sym at_a ∙ leave_at t v v_lt) in
        (leave_room t caps on v are v_lt).most (omega (arith, small, e)) some_in (rw (same, e) at within_a)
    | inr ne ↦
        let e : more ≡ room_at caps on (t.count + u) = omega (arith, is, ne) in
        let same : b ≡ stand_arc t u = same_Some _ _ (sym at_b ∙ stand_at t u u_lt) in
        (stand_room t caps on u are u_lt).most (omega (arith, small, e)) some_out (rw (same, e) at within_b)
  ]

  pub need_carries : (k : ℕ) → k < length t.needs → All (Carries (network_of t).arcs on more) (by_need v (t.count + (t.count + k)) (t.count + u))
  need_carries k lt =
      All-cons (Carries (network_of t).arcs on more) (record { arc = v; forward = true }) (record { arc = t.count + (t.count + k); forward = true } ∷ record { arc = t.count + u; forward = true } ∷ []) into_carries
      (All-cons (Carries (network_of t).arcs on more) (record { arc = t.count + (t.count + k); forward = true }) (record { arc = t.count + u; forward = true } ∷ []) (link_arc (need_at t k), link_at t k no_need lt, tt)
      (All-cons (Carries (network_of t).arcs on more) (record { arc = t.count + u; forward = true }) [] out_carries (λ i d h. absurd (omega arith))))

  pub need_push : (k : ℕ) → k < length t.needs → more < 2 ^ 63 → IsPush (network_of t).arcs on (by_need v (t.count + (t.count + k)) (t.count + u)) more (pushed on (by_need v (t.count + (t.count + k)) (t.count + u)) more)
  need_push k lt small = record {
    some = some;
    carries = need_carries k lt;
    most = λ all. least_most small (all 0 no_step (omega arith)) (all 2 no_step (omega arith));
    adds = refl;
  }

module _ (t : Terms) (caps on : List ℕ) (v more : ℕ) (are : AreCapacities t caps) (lt : v < t.count) (is : more ≡ min (room_at caps on v) (room_at caps on (t.count + v))) (some : 0 < more) where
  pub step_carries : All (Carries (network_of t).arcs on more) (over_step v (t.count + v))
  step_carries =
      All-cons (Carries (network_of t).arcs on more) (record { arc = v; forward = true }) (record { arc = t.count + v; forward = true } ∷ []) (into_carries t caps on v v more are lt lt is some)
      (All-cons (Carries (network_of t).arcs on more) (record { arc = t.count + v; forward = true }) [] (out_carries t caps on v v more are lt lt is some) (λ i d h. absurd (omega arith)))

  pub step_push : more < 2 ^ 63 → IsPush (network_of t).arcs on (over_step v (t.count + v)) more (pushed on (over_step v (t.count + v)) more)
  step_push small = record {
    some = some;
    carries = step_carries;
    most = λ all. least_most t caps on v v more are lt lt is some small (all 0 no_step (omega arith)) (all 1 no_step (omega arith));
    adds = refl;
  }
