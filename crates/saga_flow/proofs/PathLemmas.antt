-- Trails that climb one level at each residual arc, grown and cut at the end.
use Rattle.std.proofs.Common.{◌≡◌, ℕ, ◌-◌, ◌<◌, ◌≤◌, List, [], ◌∷◌, ◌++◌, length, arith}
use Rattle.saga_flow.specs.declared.nets.Arc.{Arc}
use Rattle.saga_flow.specs.declared.residual_arcs.ResidualArc.{ResidualArc}
use Rattle.saga_flow.specs.Residual.{Leads, Carries, IsOpen}
use Rattle.saga_flow.specs.Rounds.{IsTrail}
use Rattle.saga_flow.specs.Levels.{Rises, Climbs, Nears}
use Rattle.saga_flow.proofs.NetLemmas.{AreEnds}
use Rattle.saga_flow.proofs.ResidualArcLemmas.{leads_same, leads_nodes, leads_within}
use Rattle.std.specs.Prelude.{All}
use Rattle.saga_flow.proofs.PushLemmas.{All-cons}
use Rattle.saga_flow.proofs.LevelLemmas.{trail_by, trail_pop}

module _ (arcs : List Arc) (on : List ℕ) (level : ℕ → ℕ) where
  -- a climbing trail rises, and is open
  pub climbing_rises : (steps : List ResidualArc) (from to : ℕ) → IsTrail (Climbs arcs on level) from steps to → IsTrail (Rises arcs level) from steps to
  climbing_rises steps from to trail = trail_by (Climbs arcs on level) (Rises arcs level) steps from to (λ s u v step. (step.0.0, step.1)) trail

  pub climbing_open : (steps : List ResidualArc) (from to : ℕ) → IsTrail (Climbs arcs on level) from steps to → IsTrail (IsOpen arcs on) from steps to
  climbing_open steps from to trail = trail_by (Climbs arcs on level) (IsOpen arcs on) steps from to (λ s u v step. step.0) trail

-- a trail that leads one nearer at each residual arc climbs by the levels that tell how much nearer than a far node one is
pub nears_climb : (arcs : List Arc) (on : List ℕ) (far : ℕ → ℕ) (most : ℕ) (steps : List ResidualArc) (from to : ℕ) → far from ≤ most → IsTrail (Nears arcs on far) from steps to → IsTrail (Climbs arcs on (λ v. most - far v)) from steps to
nears_climb arcs on far most [] from to low trail = trail
nears_climb arcs on far most (s ∷ steps) from to low (mid, step, trail) =
    (mid, (step.0, omega (arith, step.1)), nears_climb arcs on far most steps mid to (omega (arith, step.1)) trail)

-- the last residual arc less, to the node that was read as its tail
pub nears_less : (nodes : ℕ) (arcs : List Arc) (on : List ℕ) (far : ℕ → ℕ) (path : List ResidualArc) (node found : ℕ) (s : ResidualArc) → AreEnds nodes arcs → IsTrail (Nears arcs on far) 0 (path ++ s ∷ []) node → (to : ℕ) × Leads arcs s found to → IsTrail (Nears arcs on far) 0 path found × (found < nodes)
nears_less nodes arcs on far path node found s ends trail leads =
    let last = trail_pop (Nears arcs on far) path s 0 node trail in
    let same : last.0 ≡ found = (leads_same arcs s last.0 node found leads.0 last.2.0.0 leads.1).0 in
    rw (← same) (last.1, (leads_nodes nodes arcs s last.0 node ends last.2.0.0).0)

-- the last residual arc is over an arc of the net
pub last_within : (arcs : List Arc) (on : List ℕ) (far : ℕ → ℕ) (path : List ResidualArc) (node : ℕ) (s : ResidualArc) → IsTrail (Nears arcs on far) 0 (path ++ s ∷ []) node → s.arc < length arcs
last_within arcs on far path node s trail =
    let last = trail_pop (Nears arcs on far) path s 0 node trail in
    leads_within arcs s last.0 node last.2.0.0

-- the residual arcs of an open trail carry something, and are over arcs of the net
pub open_carries : (arcs : List Arc) (on : List ℕ) (steps : List ResidualArc) (from to : ℕ) → IsTrail (IsOpen arcs on) from steps to → All (Carries arcs on 1) steps
open_carries arcs on [] from to trail = λ k d h. absurd (omega arith)
open_carries arcs on (s ∷ steps) from to (mid, step, trail) = All-cons (Carries arcs on 1) s steps step.1 (open_carries arcs on steps mid to trail)

pub open_within : (arcs : List Arc) (on : List ℕ) (steps : List ResidualArc) (from to : ℕ) → IsTrail (IsOpen arcs on) from steps to → All (λ (s : ResidualArc). s.arc < length arcs) steps
open_within arcs on [] from to trail = λ k d h. absurd (omega arith)
open_within arcs on (s ∷ steps) from to (mid, step, trail) =
    All-cons (λ (t : ResidualArc). t.arc < length arcs) s steps (leads_within arcs s from mid step.0) (open_within arcs on steps mid to trail)
