-- What stays and what changes where an amount goes over the residual arcs of a trail, no arc twice.
use Rattle.std.proofs.Common.{◌≡◌, ◌≢◌, ℕ, zero, suc, ◌+◌, ◌-◌, ◌<◌, ◌≤◌, Bool, true, false, cond, eqb, List, [], ◌∷◌, Some, length, get_or, set, refl, sym, ◌∙◌, inl, inr, arith, get_or-set_same, get_or-set_other, length-set}
use Rattle.std.specs.Prelude.{slice_get, All}
use Rattle.std.proofs.lemmas.Bool.{cases_eq, cases_lt, ne_eqb}
use Rattle.std.proofs.lemmas.Option.{slice_get_within, same_Some}
use Rattle.saga_flow.specs.declared.nets.Arc.{Arc}
use Rattle.saga_flow.specs.declared.nets.Cap.{Cap}
use Rattle.saga_flow.specs.declared.nets.Cap.TheVariants.{Of, Unbounded}
use Rattle.saga_flow.specs.declared.residual_arcs.ResidualArc.{ResidualArc}
use Rattle.saga_flow.specs.Flows.{out_of, into, IsWithin, IsFlow, HasValue}
use Rattle.saga_flow.specs.Residual.{Joins, Leads, HasRoom, Carries}
use Rattle.saga_flow.specs.Rounds.{IsTrail, shifted, pushed}
use Rattle.saga_flow.specs.Pushes.{AvoidsArc, NoArcTwice}
use Rattle.std.proofs.lemmas.List.{get_or_past}
use Rattle.saga_flow.proofs.TotalLemmas.{total-set}

-- the amount that a residual arc leaves on its arc
abbrev pub moved : Bool → ℕ → ℕ → ℕ
moved way x more = cond way (x + more) (x - more)

pub length-shifted : (on : List ℕ) (s : ResidualArc) (more : ℕ) → length (shifted on s more) ≡ length on
length-shifted on s more = length-set on s.arc _

pub shifted_same : (on : List ℕ) (s : ResidualArc) (more : ℕ) → s.arc < length on → get_or (shifted on s more) s.arc 0 ≡ moved s.forward (get_or on s.arc 0) more
shifted_same on s more h = get_or-set_same on s.arc _ 0 h

pub shifted_other : (on : List ℕ) (s : ResidualArc) (more k : ℕ) → k ≢ s.arc → get_or (shifted on s more) k 0 ≡ get_or on k 0
shifted_other on s more k h = get_or-set_other on s.arc k _ 0 h

pub length-pushed : (on : List ℕ) (steps : List ResidualArc) (more : ℕ) → length (pushed on steps more) ≡ length on
length-pushed on [] more = refl
length-pushed on (s ∷ steps) more = length-pushed (shifted on s more) steps more ∙ length-shifted on s more

-- a residual arc over another arc carries what it carried
pub carries_after : (arcs : List Arc) (on : List ℕ) (s t : ResidualArc) (more other : ℕ) → t.arc ≢ s.arc → Carries arcs on other t → Carries arcs (shifted on s more) other t
carries_after arcs on s t more other apart (a, at, room) = (a, at, rw (shifted_other on s more t.arc apart) room)

pub carries_before : (arcs : List Arc) (on : List ℕ) (s t : ResidualArc) (more other : ℕ) → t.arc ≢ s.arc → Carries arcs (shifted on s more) other t → Carries arcs on other t
carries_before arcs on s t more other apart (a, at, room) = (a, at, rw (shifted_other on s more t.arc apart) at room)

pub all_carry_after : (arcs : List Arc) (on : List ℕ) (s : ResidualArc) (steps : List ResidualArc) (more other : ℕ) → AvoidsArc s.arc steps → All (Carries arcs on other) steps → All (Carries arcs (shifted on s more) other) steps
all_carry_after arcs on s steps more other apart all k d h = carries_after arcs on s (get_or steps k d) more other (apart k d h) (all k d h)

-- the first of all, and the others
pub All-first : (P : ResidualArc → Type 0) (s : ResidualArc) (steps : List ResidualArc) → All P (s ∷ steps) → P s
All-first P s steps all = all 0 s (omega arith)

pub All-others : (P : ResidualArc → Type 0) (s : ResidualArc) (steps : List ResidualArc) → All P (s ∷ steps) → All P steps
All-others P s steps all k d h = all (suc k) d (omega arith)

pub All-cons : (P : ResidualArc → Type 0) (s : ResidualArc) (steps : List ResidualArc) → P s → All P steps → All P (s ∷ steps)
All-cons P s steps first others zero d h = first
All-cons P s steps first others (suc k) d h = others k d (omega arith)

-- an arc that no residual arc is over keeps its amount
pub pushed_other : (on : List ℕ) (steps : List ResidualArc) (more k : ℕ) → AvoidsArc k steps → get_or (pushed on steps more) k 0 ≡ get_or on k 0
pushed_other on [] more k apart = refl
pushed_other on (s ∷ steps) more k apart =
    pushed_other (shifted on s more) steps more k (All-others (λ (t : ResidualArc). t.arc ≢ k) s steps apart)
    ∙ shifted_other on s more k (λ q. All-first (λ (t : ResidualArc). t.arc ≢ k) s steps apart (sym q))

-- no arc gains more than what is pushed
pub pushed_limit : (on : List ℕ) (steps : List ResidualArc) (more k : ℕ) → NoArcTwice steps → get_or (pushed on steps more) k 0 ≤ get_or on k 0 + more
pushed_limit on [] more k once = omega arith
pushed_limit on (s ∷ steps) more k once =
    elim (cases_eq k s.arc) [
      | inl same ↦
          elim (cases_lt s.arc (length on)) [
            | inl short ↦ rw same (omega (arith, pushed_other (shifted on s more) steps more s.arc once.0, shifted_same on s more short, moved_limit s.forward (get_or on s.arc 0) more))
            | inr long ↦ rw same (omega (arith, pushed_other (shifted on s more) steps more s.arc once.0, past (length-shifted on s more) long))
          ]
      | inr other ↦ omega (arith, pushed_limit (shifted on s more) steps more k once.1, shifted_other on s more k other)
    ]
  where
    moved_limit : (way : Bool) (x y : ℕ) → moved way x y ≤ x + y
    moved_limit true x y = omega arith
    moved_limit false x y = omega arith

    past : length (shifted on s more) ≡ length on → length on ≤ s.arc → get_or (shifted on s more) s.arc 0 ≡ 0
    past q h = get_or_past (shifted on s more) s.arc 0 (omega (arith, q))

-- an amount and more of it, counted where a test is true
share_more : (here : Bool) (x more : ℕ) → cond here (x + more) 0 ≡ cond here x 0 + cond here more 0
share_more true x more = refl
share_more false x more = omega arith

share_less : (here : Bool) (x more : ℕ) → more ≤ x → cond here (x - more) 0 + cond here more 0 ≡ cond here x 0
share_less true x more h = omega arith
share_less false x more h = omega arith

-- how what leaves a node and what enters it change by one residual arc
balance_step : (arcs : List Arc) (on : List ℕ) (k from to more node : ℕ) (a : Arc) (way : Bool) → slice_get arcs k ≡ Some a → k < length on → Joins way a from to → HasRoom way a.cap (get_or on k 0) more → out_of arcs (set on k (moved way (get_or on k 0) more)) node + into arcs on node + cond (eqb to node) more 0 ≡ into arcs (set on k (moved way (get_or on k 0) more)) node + out_of arcs on node + cond (eqb from node) more 0
balance_step arcs on k from to more node a true at short joins room =
    let x = get_or on k 0 in
    let out = total-set (λ (b : Arc) y. cond (eqb b.from node) y 0) arcs on k (x + more) a at short in
    let in_ = total-set (λ (b : Arc) y. cond (eqb b.to node) y 0) arcs on k (x + more) a at short in
    let first = rw joins.0 at (share_more (eqb a.from node) x more) in
    let second = rw joins.1 at (share_more (eqb a.to node) x more) in
    omega (arith, rw joins.0 at out, rw joins.1 at in_, first, second)
balance_step arcs on k from to more node a false at short joins room =
    let x = get_or on k 0 in
    let out = total-set (λ (b : Arc) y. cond (eqb b.from node) y 0) arcs on k (x - more) a at short in
    let in_ = total-set (λ (b : Arc) y. cond (eqb b.to node) y 0) arcs on k (x - more) a at short in
    let first = rw joins.1 at (share_less (eqb a.from node) x more room) in
    let second = rw joins.0 at (share_less (eqb a.to node) x more room) in
    omega (arith, rw joins.1 at out, rw joins.0 at in_, first, second)

-- a residual arc that carries is over an arc that leads as it does
carried : (arcs : List Arc) (on : List ℕ) (s : ResidualArc) (from to more : ℕ) → Leads arcs s from to → Carries arcs on more s → (a : Arc) × (slice_get arcs s.arc ≡ Some a) × Joins s.forward a from to × HasRoom s.forward a.cap (get_or on s.arc 0) more
carried arcs on s from to more lead carry =
    let same : carry.0 ≡ lead.0 = same_Some _ _ (sym carry.1 ∙ lead.1) in
    (lead.0, lead.1, lead.2, rw same at carry.2)

-- how what leaves a node and what enters it change by a trail
pub balance_trail : (arcs : List Arc) (on : List ℕ) (steps : List ResidualArc) (from to more node : ℕ) → IsTrail (Leads arcs) from steps to → All (Carries arcs on more) steps → NoArcTwice steps → length on ≡ length arcs → out_of arcs (pushed on steps more) node + into arcs on node + cond (eqb to node) more 0 ≡ into arcs (pushed on steps more) node + out_of arcs on node + cond (eqb from node) more 0
balance_trail arcs on [] from to more node trail carry once sized = rw trail (omega arith)
balance_trail arcs on (s ∷ steps) from to more node (mid, lead, trail) carry once sized =
    let found = carried arcs on s from mid more lead (All-first (Carries arcs on more) s steps carry) in
    let short : s.arc < length on = omega (arith, slice_get_within arcs s.arc found.0 found.1) in
    omega (
      arith,
      balance_step arcs on s.arc from mid more node found.0 s.forward found.1 short found.2 found.3,
      balance_trail arcs (shifted on s more) steps mid to more node trail (all_carry_after arcs on s steps more more once.0 (All-others (Carries arcs on more) s steps carry)) once.1 (length-shifted on s more ∙ sized),
    )

-- each amount is within its capacity
abbrev pub AreWithin : List Arc → List ℕ → Type 0
AreWithin arcs on = (k : ℕ) (a : Arc) → slice_get arcs k ≡ Some a → IsWithin (get_or on k 0) a.cap

less_within : (x more : ℕ) (cap : Cap) → IsWithin x cap → IsWithin (x - more) cap
less_within x more (Of c) h = omega arith
less_within x more Unbounded h = tt

moved_within : (way : Bool) (x more : ℕ) (cap : Cap) → IsWithin x cap → HasRoom way cap x more → IsWithin (moved way x more) cap
moved_within true x more cap h room = room
moved_within false x more cap h room = less_within x more cap h

shifted_within : (arcs : List Arc) (on : List ℕ) (s : ResidualArc) (more : ℕ) → length on ≡ length arcs → Carries arcs on more s → AreWithin arcs on → AreWithin arcs (shifted on s more)
shifted_within arcs on s more sized carry within k a at =
    elim (cases_eq k s.arc) [
      | inl same ↦
          let at_arc : slice_get arcs s.arc ≡ Some a = rw same at at in
          let alike : carry.0 ≡ a = same_Some _ _ (sym carry.1 ∙ at_arc) in
          let short : s.arc < length on = omega (arith, slice_get_within arcs s.arc a at_arc) in
          rw (same, shifted_same on s more short) (moved_within s.forward (get_or on s.arc 0) more a.cap (within s.arc a at_arc) (rw alike at carry.2))
      | inr other ↦ rw (shifted_other on s more k other) (within k a at)
    ]

pub pushed_within : (arcs : List Arc) (on : List ℕ) (steps : List ResidualArc) (more : ℕ) → length on ≡ length arcs → All (Carries arcs on more) steps → NoArcTwice steps → AreWithin arcs on → AreWithin arcs (pushed on steps more)
pushed_within arcs on [] more sized carry once within = within
pushed_within arcs on (s ∷ steps) more sized carry once within =
    pushed_within arcs (shifted on s more) steps more (length-shifted on s more ∙ sized) (all_carry_after arcs on s steps more more once.0 (All-others (Carries arcs on more) s steps carry)) once.1
    (shifted_within arcs on s more sized (All-first (Carries arcs on more) s steps carry) within)

-- a push along a trail from source to sink makes a flow
pub pushed_flow : (arcs : List Arc) (on : List ℕ) (steps : List ResidualArc) (more : ℕ) → IsFlow arcs on → IsTrail (Leads arcs) 0 steps 1 → All (Carries arcs on more) steps → NoArcTwice steps → IsFlow arcs (pushed on steps more)
pushed_flow arcs on steps more flow trail carry once = record {
  sized = length-pushed on steps more ∙ flow.sized;
  within = pushed_within arcs on steps more flow.sized carry once flow.within;
  conserved = λ node not_source not_sink.
      let balance = balance_trail arcs on steps 0 1 more node trail carry once flow.sized in
      omega (arith, flow.conserved node not_source not_sink, rw (ne_eqb 1 node (λ q. not_sink (sym q)), ne_eqb 0 node (λ q. not_source (sym q))) at balance);
}

-- that has this much more value
pub pushed_value : (arcs : List Arc) (on : List ℕ) (steps : List ResidualArc) (more value : ℕ) → length on ≡ length arcs → HasValue arcs on value → IsTrail (Leads arcs) 0 steps 1 → All (Carries arcs on more) steps → NoArcTwice steps → HasValue arcs (pushed on steps more) (value + more)
pushed_value arcs on steps more value sized worth trail carry once =
    omega (arith, balance_trail arcs on steps 0 1 more 0 trail carry once sized, worth)
