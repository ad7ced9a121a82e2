-- Levels of nodes: numbers, 0 at the source, that no arc of the residual network raises by more than one. A trail that
-- rises by one at each residual arc has then the fewest arcs, is over no arc twice, and a push along it keeps the levels.
use Rattle.std.proofs.Common.{◌≡◌, ℕ, ◌+◌, ◌≤◌, Bool, true, false, List, [], ◌∷◌, ◌++◌, Some, length, get_or, refl, sym, ap, ◌∙◌, inl, inr, arith}
use Rattle.std.specs.Prelude.{slice_get, All}
use Rattle.std.proofs.lemmas.Bool.{cases_eq}
use Rattle.std.proofs.lemmas.Option.{same_Some}
use Rattle.saga_flow.specs.declared.nets.Arc.{Arc}
use Rattle.saga_flow.specs.declared.residual_arcs.ResidualArc.{ResidualArc}
use Rattle.saga_flow.specs.Residual.{Joins, IsOpen}
use Rattle.saga_flow.specs.Levels.{Rises, AreNear, IsLevelled}
use Rattle.saga_flow.specs.Rounds.{IsTrail, IsChain, shifted, pushed}
use Rattle.saga_flow.proofs.PushLemmas.{All-cons, shifted_other}
use Rattle.saga_flow.specs.Pushes.{NoArcTwice}

-- a trail by one relation is one by another that follows from it
pub trail_by : (P Q : ResidualArc → ℕ → ℕ → Type 0) (steps : List ResidualArc) (from to : ℕ) → ((s : ResidualArc) (u v : ℕ) → P s u v → Q s u v) → IsTrail P from steps to → IsTrail Q from steps to
trail_by P Q [] from to each trail = trail
trail_by P Q (s ∷ steps) from to each (mid, step, trail) = (mid, each s from mid step, trail_by P Q steps mid to each trail)

-- one more residual arc at the end
pub trail_push : (P : ResidualArc → ℕ → ℕ → Type 0) (steps : List ResidualArc) (s : ResidualArc) (from mid to : ℕ) → IsTrail P from steps mid → P s mid to → IsTrail P from (steps ++ s ∷ []) to
trail_push P [] s from mid to trail step = rw trail (to, step, refl)
trail_push P (t ∷ steps) s from mid to (next, first, trail) step = (next, first, trail_push P steps s next mid to trail step)

-- the last residual arc, and the trail before it
pub trail_pop : (P : ResidualArc → ℕ → ℕ → Type 0) (steps : List ResidualArc) (s : ResidualArc) (from to : ℕ) → IsTrail P from (steps ++ s ∷ []) to → (mid : ℕ) × IsTrail P from steps mid × P s mid to
trail_pop P [] s from to (mid, step, end) = (from, refl, rw end at step)
trail_pop P (t ∷ steps) s from to (next, first, trail) =
    let rest = trail_pop P steps s next to trail in
    (rest.0, (next, first, rest.1), rest.2)

-- an open trail climbs at most as many levels as it has residual arcs
pub trail_climbs : (arcs : List Arc) (on : List ℕ) (level : ℕ → ℕ) (steps : List ResidualArc) (from to : ℕ) → AreNear arcs on level → IsTrail (IsOpen arcs on) from steps to → level to ≤ level from + length steps
trail_climbs arcs on level [] from to near trail = rw trail (omega arith)
trail_climbs arcs on level (s ∷ steps) from to near (mid, step, trail) =
    omega (arith, near s from mid step, trail_climbs arcs on level steps mid to near trail)

-- a rising trail climbs just as many
pub rising_climbs : (arcs : List Arc) (level : ℕ → ℕ) (steps : List ResidualArc) (from to : ℕ) → IsTrail (Rises arcs level) from steps to → level to ≡ level from + length steps
rising_climbs arcs level [] from to trail = rw trail (omega arith)
rising_climbs arcs level (s ∷ steps) from to (mid, step, trail) =
    omega (arith, step.1, rising_climbs arcs level steps mid to trail)

-- an open trail that climbs as many levels as it has residual arcs rises at each
pub rising_from_climb : (arcs : List Arc) (on : List ℕ) (level : ℕ → ℕ) (steps : List ResidualArc) (from to : ℕ) → AreNear arcs on level → IsTrail (IsOpen arcs on) from steps to → level to ≡ level from + length steps → IsTrail (Rises arcs level) from steps to
rising_from_climb arcs on level [] from to near trail climb = trail
rising_from_climb arcs on level (s ∷ steps) from to near (mid, step, trail) climb =
    let up : level mid ≡ level from + 1 = omega (arith, near s from mid step, trail_climbs arcs on level steps mid to near trail) in
    (mid, (step.0, up), rising_from_climb arcs on level steps mid to near trail (omega arith))

-- both ends of the residual arc's arc are at a level or above
abbrev EndsAbove : List Arc → (ℕ → ℕ) → ℕ → ResidualArc → Type 0
EndsAbove arcs level low s = (a : Arc) → slice_get arcs s.arc ≡ Some a → (low ≤ level a.from) × (low ≤ level a.to)

-- the lower end of a rising residual arc's arc is where the residual arc begins
rise_ends : (level : ℕ → ℕ) (a : Arc) (way : Bool) (from to : ℕ) → Joins way a from to → level to ≡ level from + 1 → (level from ≤ level a.from) × (level from ≤ level a.to) × ((level from + 1 ≤ level a.from) → (level from + 1 ≤ level a.to) → ⊥)
rise_ends level a true from to joins up =
    let first = ap level joins.0 in
    let second = ap level joins.1 in
    (omega (arith, first), omega (arith, second), λ h k. omega (arith, first))
rise_ends level a false from to joins up =
    let first = ap level joins.0 in
    let second = ap level joins.1 in
    (omega (arith, second), omega (arith, first), λ h k. omega (arith, first))

rise_above : (arcs : List Arc) (level : ℕ → ℕ) (s : ResidualArc) (from to : ℕ) → Rises arcs level s from to → EndsAbove arcs level (level from) s
rise_above arcs level s from to ((b, at_b, joins), up) a at =
    let same : b ≡ a = same_Some _ _ (sym at_b ∙ at) in
    let ends = rise_ends level b s.forward from to joins up in
    rw (← same) (ends.0, ends.1)

trail_above : (arcs : List Arc) (level : ℕ → ℕ) (steps : List ResidualArc) (from to low : ℕ) → IsTrail (Rises arcs level) from steps to → low ≤ level from → All (EndsAbove arcs level low) steps
trail_above arcs level [] from to low trail h = λ k d short. absurd (omega arith)
trail_above arcs level (s ∷ steps) from to low (mid, step, trail) h =
    All-cons (EndsAbove arcs level low) s steps
    (λ a at. let ends = rise_above arcs level s from mid step a at in (omega (arith, ends.0), omega (arith, ends.1)))
    (trail_above arcs level steps mid to low trail (omega (arith, step.1)))

-- a rising trail is over no arc twice
pub rising_once : (arcs : List Arc) (level : ℕ → ℕ) (steps : List ResidualArc) (from to : ℕ) → IsTrail (Rises arcs level) from steps to → NoArcTwice steps
rising_once arcs level [] from to trail = tt
rising_once arcs level (s ∷ steps) from to (mid, step, trail) = (
  (λ k d h same. apart (get_or steps k d) same (trail_above arcs level steps mid to (level from + 1) trail (omega (arith, step.1)) k d h)),
  rising_once arcs level steps mid to trail,
)
  where
    apart : (t : ResidualArc) → t.arc ≡ s.arc → EndsAbove arcs level (level from + 1) t → ⊥
    apart t same above =
        let lead = step.0 in
        let at_t : slice_get arcs t.arc ≡ Some lead.0 = rw same lead.1 in
        let ends = above lead.0 at_t in
        (rise_ends level lead.0 s.forward from mid lead.2 step.1).2 ends.0 ends.1

-- a rising trail is a shortest of the open ones
pub rising_fewest : (arcs : List Arc) (on : List ℕ) (level : ℕ → ℕ) (steps : List ResidualArc) → IsLevelled arcs on level → IsTrail (Rises arcs level) 0 steps 1 → (other : List ResidualArc) → IsChain arcs on other → length steps ≤ length other
rising_fewest arcs on level steps levelled rising other chain =
    omega (arith, rising_climbs arcs level steps 0 1 rising, trail_climbs arcs on level other 0 1 levelled.near chain)

-- a residual arc over one arc leads as another over it, or the other way
same_arc : (a b : Arc) (one other : Bool) (u v x y : ℕ) (level : ℕ → ℕ) → a ≡ b → Joins one a u v → Joins other b x y → level y ≡ level x + 1 → level v ≤ level u + 1
same_arc a b true true u v x y level same first second up =
    omega (arith, ap level (sym first.0 ∙ ap (λ (c : Arc). c.from) same ∙ second.0), ap level (sym first.1 ∙ ap (λ (c : Arc). c.to) same ∙ second.1))
same_arc a b false false u v x y level same first second up =
    omega (arith, ap level (sym first.0 ∙ ap (λ (c : Arc). c.to) same ∙ second.0), ap level (sym first.1 ∙ ap (λ (c : Arc). c.from) same ∙ second.1))
same_arc a b true false u v x y level same first second up =
    omega (arith, ap level (sym first.0 ∙ ap (λ (c : Arc). c.from) same ∙ second.1), ap level (sym first.1 ∙ ap (λ (c : Arc). c.to) same ∙ second.0))
same_arc a b false true u v x y level same first second up =
    omega (arith, ap level (sym first.0 ∙ ap (λ (c : Arc). c.to) same ∙ second.1), ap level (sym first.1 ∙ ap (λ (c : Arc). c.from) same ∙ second.0))

-- a push over a rising residual arc keeps the levels
near_shifted : (arcs : List Arc) (on : List ℕ) (level : ℕ → ℕ) (s : ResidualArc) (from to more : ℕ) → Rises arcs level s from to → AreNear arcs on level → AreNear arcs (shifted on s more) level
near_shifted arcs on level s from to more rise near t u v opened =
    elim (cases_eq t.arc s.arc) [
      | inl same ↦
          let lead = opened.0 in
          let other = rise.0 in
          let at : slice_get arcs s.arc ≡ Some lead.0 = rw same at lead.1 in
          same_arc lead.0 other.0 t.forward s.forward u v from to level (same_Some _ _ (sym at ∙ other.1)) lead.2 other.2 rise.1
      | inr other ↦ near t u v (opened.0, (opened.1.0, opened.1.1, rw (shifted_other on s more t.arc other) at opened.1.2))
    ]

-- and so does a push along a rising trail
pub near_pushed : (arcs : List Arc) (on : List ℕ) (level : ℕ → ℕ) (steps : List ResidualArc) (from to more : ℕ) → IsTrail (Rises arcs level) from steps to → AreNear arcs on level → AreNear arcs (pushed on steps more) level
near_pushed arcs on level [] from to more trail near = near
near_pushed arcs on level (s ∷ steps) from to more (mid, step, trail) near =
    near_pushed arcs (shifted on s more) level steps mid to more trail (near_shifted arcs on level s from mid more step near)
