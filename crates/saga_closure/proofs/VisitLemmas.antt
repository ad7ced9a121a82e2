-- A visit: the residual arcs out of a step are entries of its lists.
use Rattle.std.proofs.Common.{ℕ, ◌≡◌, ◌<◌, ◌≤◌, ◌+◌, ◌⊎◌, true, List, length, get_or, subst, refl, arith, inl, inr}
use Rattle.saga_case.specs.Terms.{Terms}
use Rattle.saga_flow.specs.Flows.{IsWithin}
use Rattle.saga_flow.specs.Residual.{IsOpen}
use Rattle.saga_closure.specs.CaseNet.{network_of, cap_of}
use Rattle.saga_closure.specs.Capacities.{AreCapacities, room_at}
use Rattle.saga_closure.specs.Layers.{GoesIn, GoesOut, Goes, IsSearch, IsStart}
use Rattle.saga_closure.proofs.ArcCases.{need_at, each_open, opens_leave, opens_stand}
use Rattle.saga_closure.proofs.RoomLemmas.{leave_room, stand_room}

module _ (t : Terms) (on : List ℕ) (v w : ℕ) where
  pub goes_in : GoesIn t on v → (v < t.count) × IsWithin (get_or on v 0 + 1) (cap_of (t.leave v))
  goes_in (s, step) =
      each_open t on (λ a b. a ≡ 0 → b ≡ 2 + v → (v < t.count) × IsWithin (get_or on v 0 + 1) (cap_of (t.leave v)))
      (λ x lt room p q. let e : x ≡ v = omega arith in (omega arith, subst (λ y. IsWithin (get_or on y 0 + 1) (cap_of (t.leave y))) e room))
      (λ x lt p q. absurd (omega arith))
      (λ x lt room p q. absurd (omega arith))
      (λ x lt p q. absurd (omega arith))
      (λ k lt p q. absurd (omega arith))
      (λ k lt some p q. absurd (omega arith))
      s 0 (2 + v) step refl refl

  pub goes_out : GoesOut t on v → (v < t.count) × IsWithin (get_or on (t.count + v) 0 + 1) (cap_of (t.stand v))
  goes_out (s, step) =
      each_open t on (λ a b. a ≡ 2 + v → b ≡ 1 → (v < t.count) × IsWithin (get_or on (t.count + v) 0 + 1) (cap_of (t.stand v)))
      (λ x lt room p q. absurd (omega arith))
      (λ x lt p q. absurd (omega arith))
      (λ x lt room p q. let e : x ≡ v = omega arith in (omega arith, subst (λ y. IsWithin (get_or on (t.count + y) 0 + 1) (cap_of (t.stand y))) e room))
      (λ x lt p q. absurd (omega arith))
      (λ k lt p q. absurd (omega arith))
      (λ k lt some p q. absurd (omega arith))
      s (2 + v) 1 step refl refl

  abbrev pub GoesBy : Type 0
  GoesBy = ((k : ℕ) × (k < length t.needs) × ((need_at t k).step ≡ v) × ((need_at t k).on ≡ w))
      ⊎ ((k : ℕ) × (k < length t.needs) × ((need_at t k).on ≡ v) × ((need_at t k).step ≡ w) × (0 < get_or on (t.count + (t.count + k)) 0))

  pub goes_by : Goes t on v w → GoesBy
  goes_by (s, step) =
      each_open t on (λ a b. a ≡ 2 + v → b ≡ 2 + w → GoesBy)
      (λ x lt room p q. absurd (omega arith))
      (λ x lt p q. absurd (omega arith))
      (λ x lt room p q. absurd (omega arith))
      (λ x lt p q. absurd (omega arith))
      (λ k lt p q. inl (k, lt, omega arith, omega arith))
      (λ k lt some p q. inr (k, lt, omega arith, omega arith, some))
      s (2 + v) (2 + w) step refl refl

-- the rooms of the two prices
pub in_from_room : (t : Terms) (caps on : List ℕ) (v : ℕ) → AreCapacities t caps → v < t.count → 0 < room_at caps on v → GoesIn t on v
in_from_room t caps on v capacities lt some = (record { arc = v; forward = true }, opens_leave t on v lt ((leave_room t caps on v capacities lt).one some))

pub room_from_in : (t : Terms) (caps on : List ℕ) (v : ℕ) → AreCapacities t caps → GoesIn t on v → 0 < room_at caps on v
room_from_in t caps on v capacities goes = let is = goes_in t on v 0 goes in (leave_room t caps on v capacities is.0).shut is.1

pub out_from_room : (t : Terms) (caps on : List ℕ) (v : ℕ) → AreCapacities t caps → v < t.count → 0 < room_at caps on (t.count + v) → IsOpen (network_of t).arcs on (record { arc = t.count + v; forward = true }) (2 + v) 1
out_from_room t caps on v capacities lt some = opens_stand t on v lt ((stand_room t caps on v capacities lt).one some)

pub room_from_out : (t : Terms) (caps on : List ℕ) (v : ℕ) → AreCapacities t caps → GoesOut t on v → 0 < room_at caps on (t.count + v)
room_from_out t caps on v capacities goes = let is = goes_out t on v 0 goes in (stand_room t caps on v capacities is.0).shut is.1

-- the search begins
pub search_start : (t : Terms) (caps on level labelled order : List ℕ) → AreCapacities t caps → t.count ≤ 1024 → IsStart (λ v. room_at caps on v) t.count level labelled order t.count → IsSearch t on level labelled order 0 (length order) 0 0 0
search_start t caps on level labelled order capacities few start = record {
  sized = start.sized;
  wide = start.wide;
  few_steps = few;
  bounds = (omega arith, omega arith, omega arith);
  dries = omega arith;
  inside = λ j lt. (start.inside j lt).0;
  counted = start.counted;
  deep = omega arith;
  levels = λ v lt. elim (start.either v lt) [ inl w ↦ inl (omega (arith, w.0)) | inr w ↦ inr w.0 ];
  here = λ j le lt. (start.inside j lt).1;
  there = λ j le lt. absurd (omega arith);
  listed = λ v lt at. elim (start.either v lt) [ inl w ↦ (w.2.0, omega arith, w.2.1, w.2.2) | inr w ↦ absurd (omega (arith, w.0)) ];
  listed_next = λ v lt at. elim (start.either v lt) [ inl w ↦ absurd (omega (arith, w.0)) | inr w ↦ absurd (omega (arith, w.0)) ];
  source = λ v lt goes. elim (start.either v lt) [ inl w ↦ w.0 | inr w ↦ absurd (omega (arith, w.1, room_from_in t caps on v capacities goes)) ];
  done = λ v w v_lt w_lt less goes. absurd (omega arith);
  done_here = λ j w le lt w_lt goes. absurd (omega arith);
  dry = λ v lt less goes. absurd (omega arith);
  back = λ v lt less. elim (start.either v lt) [ inl w ↦ inl (w.0, in_from_room t caps on v capacities lt w.1) | inr w ↦ absurd (omega (arith, w.0)) ];
  marked = start.marked;
}

pub opened_in : (t : Terms) (caps on : List ℕ) (v : ℕ) → AreCapacities t caps → v < t.count → 0 < room_at caps on v → IsOpen (network_of t).arcs on (record { arc = v; forward = true }) 0 (2 + v)
opened_in t caps on v capacities lt some = opens_leave t on v lt ((leave_room t caps on v capacities lt).one some)
