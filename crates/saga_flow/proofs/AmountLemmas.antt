-- The greatest amount that a path carries, residual arc by residual arc; and an amount that goes over a path, residual arc by residual arc.
use Rattle.std.proofs.Common.{◌≡◌, ◌≢◌, ℕ, ◌+◌, ◌^◌, ◌<◌, ◌≤◌, min, Bool, true, false, List, ◌∷◌, length, get_or, inl, inr, arith}
use Rattle.std.specs.Prelude.{All}
use Rattle.std.proofs.lemmas.Bool.{cases_eq, cases_lt}
use Rattle.std.proofs.lemmas.Option.{slice_get_within}
use Rattle.saga_flow.specs.declared.nets.Arc.{Arc}
use Rattle.saga_flow.specs.declared.nets.Cap.{Cap}
use Rattle.saga_flow.specs.declared.nets.Cap.TheVariants.{Of, Unbounded}
use Rattle.saga_flow.specs.declared.residual_arcs.ResidualArc.{ResidualArc}
use Rattle.saga_flow.specs.Residual.{HasRoom, Carries}
use Rattle.saga_flow.specs.Rounds.{shifted, pushed}
use Rattle.saga_flow.specs.Pushes.{NoArcTwice, FitsShift, CanShift}
use Rattle.saga_flow.proofs.PushLemmas.{length-shifted, shifted_other, All-others}

-- what carries an amount carries less
room_less : (way : Bool) (cap : Cap) (x more less : ℕ) → less ≤ more → HasRoom way cap x more → HasRoom way cap x less
room_less true (Of c) x more less h room = omega arith
room_less true Unbounded x more less h room = tt
room_less false cap x more less h room = omega arith

pub carries_less : (arcs : List Arc) (on : List ℕ) (s : ResidualArc) (more less : ℕ) → less ≤ more → Carries arcs on more s → Carries arcs on less s
carries_less arcs on s more less h (a, at, room) = (a, at, room_less s.forward a.cap _ more less h room)

-- the greatest amount, below 2^63, that the first residual arcs of a path carry
pub record IsMost (arcs : List Arc) (on : List ℕ) (path : List ResidualArc) (count most : ℕ) : Type 0 where
  pub some : 0 < most
  pub carries : (k : ℕ) (d : ResidualArc) → k < count → Carries arcs on most (get_or path k d)
  pub greatest : most < 2 ^ 63 → ((k : ℕ) (d : ResidualArc) → k < count → Carries arcs on (most + 1) (get_or path k d)) → ⊥

pub most_none : (arcs : List Arc) (on : List ℕ) (path : List ResidualArc) → IsMost arcs on path 0 (2 ^ 63)
most_none arcs on path = record {
  some = omega arith;
  carries = λ k d h. absurd (omega arith);
  greatest = λ below all. omega arith;
}

-- one residual arc more
pub most_more : (arcs : List Arc) (on : List ℕ) (path : List ResidualArc) (count most room : ℕ) → IsMost arcs on path count most → 0 < room → ((d : ResidualArc) → Carries arcs on room (get_or path count d)) → (room < 2 ^ 63 → ((d : ResidualArc) → Carries arcs on (room + 1) (get_or path count d)) → ⊥) → IsMost arcs on path (count + 1) (min most room)
most_more arcs on path count most room before some carries greatest = record {
  some = omega (arith, before.some);
  carries = λ k d h.
      elim (cases_eq k count) [
        | inl same ↦ rw same (carries_less arcs on (get_or path count d) room (min most room) (omega arith) (carries d))
        | inr other ↦ carries_less arcs on (get_or path k d) most (min most room) (omega arith) (before.carries k d (omega arith))
      ];
  greatest = λ below all.
      elim (cases_lt room most) [
        | inl less ↦
            (let is : min most room ≡ room = omega arith in
            greatest (omega arith) (λ d. rw is at (all count d (omega arith))))
        | inr more ↦
            (let is : min most room ≡ most = omega arith in
            before.greatest (omega arith) (λ k d h. rw is at (all k d (omega arith))))
      ];
}

-- a residual arc over another arc can still go
can_after : (on : List ℕ) (s t : ResidualArc) (more : ℕ) → t.arc ≢ s.arc → CanShift on more t → CanShift (shifted on s more) more t
can_after on s t more apart can =
    (omega (arith, can.0, length-shifted on s more), rw (shifted_other on s more t.arc apart) can.1)

-- an amount went over the first residual arcs of a path, and can go over the others
pub record IsPushing (start : List ℕ) (path : List ResidualArc) (more : ℕ) (on : List ℕ) (rest : List ResidualArc) : Type 0 where
  pub once : NoArcTwice rest
  pub can : All (CanShift on more) rest
  pub ends : pushed on rest more ≡ pushed start path more

pub pushing_more : (start : List ℕ) (path : List ResidualArc) (more : ℕ) (on : List ℕ) (s : ResidualArc) (rest : List ResidualArc) → IsPushing start path more on (s ∷ rest) → IsPushing start path more (shifted on s more) rest
pushing_more start path more on s rest before = record {
  once = before.once.1;
  can = λ k d h. can_after on s (get_or rest k d) more (before.once.0 k d h) (All-others (CanShift on more) s rest before.can k d h);
  ends = before.ends;
}

-- a residual arc that carries an amount can take it, where the sum fits
fits_shift : (way : Bool) (cap : Cap) (x more : ℕ) → HasRoom way cap x more → x + more < 2 ^ 63 → FitsShift way x more
fits_shift true cap x more room small = omega arith
fits_shift false cap x more room small = room

pub can_from_carries : (arcs : List Arc) (on : List ℕ) (s : ResidualArc) (more : ℕ) → length on ≡ length arcs → Carries arcs on more s → get_or on s.arc 0 + more < 2 ^ 63 → CanShift on more s
can_from_carries arcs on s more sized (a, at, room) small =
    (omega (arith, slice_get_within arcs s.arc a at), fits_shift s.forward a.cap _ more room small)
