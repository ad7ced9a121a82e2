-- How many rounds there can be: a count of what is still open one level up, for levels that are kept as long as the
-- shortest chains are no longer.
use Rattle.std.proofs.Common.{◌≡◌, ℕ, ◌+◌, ◌-◌, ◌*◌, ◌^◌, ◌<◌, ◌≤◌, Bool, true, false, cond, eqb, ltb, List, [], ◌∷◌, length, get_or, refl, sym, ap, ◌∙◌, ◌⊎◌, inl, inr, arith}
use Rattle.std.specs.Prelude.{All}
use Rattle.std.proofs.Math.Nat.{mul-le-mul_left}
use Rattle.std.proofs.lemmas.Bool.{cases_lt, eq-eqb, ne_eqb, lt-ltb, le-ltb}
use Rattle.std.proofs.lemmas.Option.{slice_get_within, same_Some}
use Rattle.saga_flow.specs.declared.nets.Arc.{Arc}
use Rattle.saga_flow.specs.declared.nets.Cap.{Cap}
use Rattle.saga_flow.specs.declared.nets.Cap.TheVariants.{Of, Unbounded}
use Rattle.saga_flow.specs.declared.residual_arcs.ResidualArc.{ResidualArc}
use Rattle.saga_flow.specs.declared.rounds.Progress.{Progress}
use Rattle.saga_flow.specs.Network.{IsNetwork}
use Rattle.saga_flow.specs.Reached.{Reaches, HasUnbounded}
use Rattle.saga_flow.specs.Flows.{IsWithin}
use Rattle.saga_flow.specs.Residual.{Joins, Leads, HasRoom, Carries, IsOpen}
use Rattle.saga_flow.specs.Levels.{Rises, IsLevelled}
use Rattle.saga_flow.specs.Progress.{along_share, back_share, up_share, open_count, IsBudgeted, IsProgress, AddsRound}
use Rattle.saga_flow.specs.Rounds.{IsTrail, IsChain, shifted, pushed, IsReachedIn}
use Rattle.saga_flow.proofs.NetLemmas.{AreEnds-from_test}
use Rattle.saga_flow.proofs.LeastCut.{value_le_sum}
use Rattle.saga_flow.proofs.TotalLemmas.{total-set}
use Rattle.saga_flow.proofs.PushLemmas.{moved, All-first, All-others, All-cons, all_carry_after, carries_before, length-shifted, pushed_limit, pushed_flow, pushed_value}
use Rattle.saga_flow.specs.Pushes.{NoArcTwice}
use Rattle.saga_flow.proofs.LevelLemmas.{trail_by, trail_climbs, rising_climbs, rising_from_climb, rising_once, rising_fewest, near_pushed}

one_or_none : (b : Bool) → cond b 1 0 ≤ 1
one_or_none true = omega arith
one_or_none false = omega arith

along_le : (cap : Cap) (x : ℕ) → along_share cap x ≤ 1
along_le (Of c) x = one_or_none (ltb x c)
along_le Unbounded x = omega arith

up_le : (up down : Bool) (cap : Cap) (x : ℕ) → cond up (along_share cap x) (cond down (back_share x) 0) ≤ 1
up_le true down cap x = along_le cap x
up_le false true cap x = one_or_none (ltb 0 x)
up_le false false cap x = omega arith

-- there are at most as many as arcs
pub open_count_le : (level : ℕ → ℕ) (arcs : List Arc) (on : List ℕ) → open_count level arcs on ≤ length arcs
open_count_le level [] on = omega arith
open_count_le level (a ∷ arcs) [] = omega arith
open_count_le level (a ∷ arcs) (x ∷ on) =
    omega (arith, open_count_le level arcs on, up_le (eqb (level a.to) (level a.from + 1)) (eqb (level a.from) (level a.to + 1)) a.cap x)

-- what an arc counts that a rising residual arc is over
up_along : (level : ℕ → ℕ) (a : Arc) (from to x : ℕ) → Joins true a from to → level to ≡ level from + 1 → up_share (level a.from) (level a.to) a.cap x ≡ along_share a.cap x
up_along level a from to x joins up =
    let rise : level a.to ≡ level a.from + 1 = ap level joins.1 ∙ up ∙ ap (λ y. level y + 1) (sym joins.0) in
    rw (eq-eqb (level a.to) (level a.from + 1) rise) refl

up_back : (level : ℕ → ℕ) (a : Arc) (from to x : ℕ) → Joins false a from to → level to ≡ level from + 1 → up_share (level a.from) (level a.to) a.cap x ≡ back_share x
up_back level a from to x joins up =
    let rise : level a.from ≡ level a.to + 1 = ap level joins.1 ∙ up ∙ ap (λ y. level y + 1) (sym joins.0) in
    rw (ne_eqb (level a.to) (level a.from + 1) (λ q. absurd (omega arith)), eq-eqb (level a.from) (level a.to + 1) rise) refl

test_le : (a b c d : ℕ) → (a < b → c < d) → cond (ltb a b) 1 0 ≤ cond (ltb c d) 1 0
test_le a b c d h =
    elim (cases_lt a b) [
      | inl less ↦ rw (lt-ltb a b less, lt-ltb c d (h less)) (omega arith)
      | inr more ↦ rw (le-ltb a b more) (omega arith)
    ]

along_more : (cap : Cap) (x more : ℕ) → along_share cap (x + more) ≤ along_share cap x
along_more (Of c) x more = test_le (x + more) c x c (λ h. omega arith)
along_more Unbounded x more = omega arith

-- after a residual arc up its arc counts no more than before
moved_le : (level : ℕ → ℕ) (a : Arc) (way : Bool) (from to x more : ℕ) → Joins way a from to → level to ≡ level from + 1 → up_share (level a.from) (level a.to) a.cap (moved way x more) ≤ up_share (level a.from) (level a.to) a.cap x
moved_le level a true from to x more joins up =
    rw (up_along level a from to x joins up, up_along level a from to (x + more) joins up) (along_more a.cap x more)
moved_le level a false from to x more joins up =
    rw (up_back level a from to x joins up, up_back level a from to (x - more) joins up) (test_le 0 (x - more) 0 x (λ h. omega arith))

along_full : (cap : Cap) (x more : ℕ) → 0 < more → IsWithin (x + more) cap → (IsWithin (x + (more + 1)) cap → ⊥) → along_share cap (x + more) + 1 ≤ along_share cap x
along_full (Of c) x more some room full =
    elim (cases_lt (x + more) c) [
      | inl less ↦ absurd (full (omega arith))
      | inr more_than ↦ rw (le-ltb (x + more) c more_than, lt-ltb x c (omega arith)) (omega arith)
    ]
along_full Unbounded x more some room full = absurd (full tt)

back_full : (x more : ℕ) → 0 < more → more ≤ x → (more + 1 ≤ x → ⊥) → back_share (x - more) + 1 ≤ back_share x
back_full x more some room full =
    elim (cases_lt more x) [
      | inl less ↦ absurd (full (omega arith))
      | inr more_than ↦ rw (le-ltb 0 (x - more) (omega arith), lt-ltb 0 x (omega arith)) (omega arith)
    ]

-- and where the residual arc carries no more than that, it counts one less
moved_full : (level : ℕ → ℕ) (a : Arc) (way : Bool) (from to x more : ℕ) → Joins way a from to → level to ≡ level from + 1 → 0 < more → HasRoom way a.cap x more → (HasRoom way a.cap x (more + 1) → ⊥) → up_share (level a.from) (level a.to) a.cap (moved way x more) + 1 ≤ up_share (level a.from) (level a.to) a.cap x
moved_full level a true from to x more joins up some room full =
    rw (up_along level a from to x joins up, up_along level a from to (x + more) joins up) (along_full a.cap x more some room full)
moved_full level a false from to x more joins up some room full =
    rw (up_back level a from to x joins up, up_back level a from to (x - more) joins up) (back_full x more some room full)

-- whether an arc has room
room_cases : (way : Bool) (cap : Cap) (x more : ℕ) → HasRoom way cap x more ⊎ (HasRoom way cap x more → ⊥)
room_cases true (Of c) x more = elim (cases_lt c (x + more)) [ inl less ↦ inr (λ h. omega arith) | inr fits ↦ inl fits ]
room_cases true Unbounded x more = inl tt
room_cases false cap x more = elim (cases_lt x more) [ inl less ↦ inr (λ h. omega arith) | inr fits ↦ inl fits ]

module _ (level : ℕ → ℕ) (arcs : List Arc) where
  -- a residual arc up lowers the count or keeps it
  count_shifted : (on : List ℕ) (s : ResidualArc) (from to more : ℕ) → length on ≡ length arcs → Rises arcs level s from to → open_count level arcs (shifted on s more) ≤ open_count level arcs on
  count_shifted on s from to more sized rise =
      let lead = rise.0 in
      let short : s.arc < length on = omega (arith, slice_get_within arcs s.arc lead.0 lead.1) in
      omega (
        arith,
        total-set (λ (a : Arc) x. up_share (level a.from) (level a.to) a.cap x) arcs on s.arc (moved s.forward (get_or on s.arc 0) more) lead.0 lead.1 short,
        moved_le level lead.0 s.forward from to (get_or on s.arc 0) more lead.2 rise.1,
      )

  -- a full residual arc up lowers it
  count_shifted_full : (on : List ℕ) (s : ResidualArc) (from to more : ℕ) → length on ≡ length arcs → Rises arcs level s from to → 0 < more → Carries arcs on more s → (Carries arcs on (more + 1) s → ⊥) → open_count level arcs (shifted on s more) + 1 ≤ open_count level arcs on
  count_shifted_full on s from to more sized rise some carry full =
      let lead = rise.0 in
      let short : s.arc < length on = omega (arith, slice_get_within arcs s.arc lead.0 lead.1) in
      let same : carry.0 ≡ lead.0 = same_Some _ _ (sym carry.1 ∙ lead.1) in
      omega (
        arith,
        total-set (λ (a : Arc) x. up_share (level a.from) (level a.to) a.cap x) arcs on s.arc (moved s.forward (get_or on s.arc 0) more) lead.0 lead.1 short,
        moved_full level lead.0 s.forward from to (get_or on s.arc 0) more lead.2 rise.1 some (rw same at carry.2) (λ room. full (lead.0, lead.1, room)),
      )

  count_pushed : (on : List ℕ) (steps : List ResidualArc) (from to more : ℕ) → length on ≡ length arcs → IsTrail (Rises arcs level) from steps to → open_count level arcs (pushed on steps more) ≤ open_count level arcs on
  count_pushed on [] from to more sized trail = omega arith
  count_pushed on (s ∷ steps) from to more sized (mid, step, trail) =
      omega (arith, count_shifted on s from mid more sized step, count_pushed (shifted on s more) steps mid to more (length-shifted on s more ∙ sized) trail)

  -- a push of all that a rising trail carries lowers the count
  count_pushed_full : (on : List ℕ) (steps : List ResidualArc) (from to more : ℕ) → length on ≡ length arcs → IsTrail (Rises arcs level) from steps to → NoArcTwice steps → 0 < more → All (Carries arcs on more) steps → (All (Carries arcs on (more + 1)) steps → ⊥) → open_count level arcs (pushed on steps more) + 1 ≤ open_count level arcs on
  count_pushed_full on [] from to more sized trail once some carry full = absurd (full (λ k d h. absurd (omega arith)))
  count_pushed_full on (s ∷ steps) from to more sized (mid, step, trail) once some carry full =
      let lead = step.0 in
      let after = length-shifted on s more ∙ sized in
      elim (room_cases s.forward lead.0.cap (get_or on s.arc 0) (more + 1)) [
        | inl room ↦
            omega (
              arith,
              count_shifted on s from mid more sized step,
              count_pushed_full (shifted on s more) steps mid to more after trail once.1 some (all_carry_after arcs on s steps more more once.0 (All-others (Carries arcs on more) s steps carry))
                  (λ all. full (All-cons (Carries arcs on (more + 1)) s steps (lead.0, lead.1, room) (λ k d h. carries_before arcs on s (get_or steps k d) more (more + 1) (once.0 k d h) (all k d h)))),
            )
        | inr no_room ↦
            omega (
              arith,
              count_pushed (shifted on s more) steps mid to more after trail,
              count_shifted_full on s from mid more sized step some (All-first (Carries arcs on more) s steps carry) (λ carry_more. no_room (room_of lead carry_more)),
            )
      ]
    where
      room_of : Leads arcs s from mid → Carries arcs on (more + 1) s → HasRoom s.forward step.0.0.cap (get_or on s.arc 0) (more + 1)
      room_of lead carry_more =
          let same : carry_more.0 ≡ step.0.0 = same_Some _ _ (sym carry_more.1 ∙ step.0.1) in
          rw same at carry_more.2

pub rounds_le_size : (nodes : ℕ) (arcs : List Arc) (on : List ℕ) (rounds : ℕ) → IsBudgeted nodes arcs on rounds → rounds ≤ nodes * length arcs
rounds_le_size nodes arcs on rounds budget =
    let most = mul-le-mul_left (length arcs) budget.low in
    omega (arith, most, budget.spent)

-- a push of all that a trail carries, which rises by some levels, is one round more
pub budget_more : (nodes : ℕ) (arcs : List Arc) (on : List ℕ) (rounds : ℕ) (own : ℕ → ℕ) (steps : List ResidualArc) (more : ℕ) → length on ≡ length arcs → IsBudgeted nodes arcs on rounds → IsLevelled arcs on own → own 1 ≤ nodes → IsTrail (Rises arcs own) 0 steps 1 → IsChain arcs on steps → 0 < more → All (Carries arcs on more) steps → (All (Carries arcs on (more + 1)) steps → ⊥) → IsBudgeted nodes arcs (pushed on steps more) (rounds + 1)
budget_more nodes arcs on rounds own steps more sized budget levelled low rising chain some carry full =
    let climb = rising_climbs arcs own steps 0 1 rising in
    let once = rising_once arcs own steps 0 1 rising in
    let at_most = trail_climbs arcs on budget.level steps 0 1 budget.levelled.near chain in
    elim (cases_lt (budget.level 1) (own 1)) [
      | inl longer ↦
          record {
            level = own;
            levelled = record { source = levelled.source; near = near_pushed arcs on own steps 0 1 more rising levelled.near };
            low = low;
            spent = renewed (rounds) (open_count budget.level arcs on) (open_count own arcs (pushed on steps more)) (open_count own arcs on) (length arcs) (budget.level 1) (own 1) budget.spent (count_pushed_full own arcs on steps 0 1 more sized rising once some carry full) (open_count_le own arcs on) longer;
          }
      | inr no_longer ↦
          let tight = rising_from_climb arcs on budget.level steps 0 1 budget.levelled.near chain (omega (arith, levelled.source, budget.levelled.source)) in
          record {
            level = budget.level;
            levelled = record { source = budget.levelled.source; near = near_pushed arcs on budget.level steps 0 1 more tight budget.levelled.near };
            low = budget.low;
            spent = omega (arith, budget.spent, count_pushed_full budget.level arcs on steps 0 1 more sized tight once some carry full);
          }
    ]
  where
    renewed : (rounds old now before arcs low high : ℕ) → rounds + old ≤ arcs * low → now + 1 ≤ before → before ≤ arcs → low < high → rounds + 1 + now ≤ arcs * high
    renewed rounds old now before arcs low high spent less few longer =
        let most : arcs * (low + 1) ≤ arcs * high = mul-le-mul_left arcs (omega arith) in
        omega (arith, most)

-- one round more
pub progress_more : (nodes : ℕ) (arcs : List Arc) (on : List ℕ) (value rounds : ℕ) (own : ℕ → ℕ) (steps : List ResidualArc) (amount : ℕ) → IsProgress nodes arcs on value rounds → IsLevelled arcs on own → own 1 ≤ nodes → IsTrail (Rises arcs own) 0 steps 1 → IsChain arcs on steps → 0 < amount → All (Carries arcs on amount) steps → (All (Carries arcs on (amount + 1)) steps → ⊥) → IsProgress nodes arcs (pushed on steps amount) (value + amount) (rounds + 1)
progress_more nodes arcs on value rounds own steps amount progress levelled low rising chain some carry full =
    let once = rising_once arcs own steps 0 1 rising in
    let leading = trail_by (IsOpen arcs on) (Leads arcs) steps 0 1 (λ s u v step. step.0) chain in
    record {
      flow = pushed_flow arcs on steps amount progress.flow leading carry once;
      worth = pushed_value arcs on steps amount value progress.flow.sized progress.worth leading carry once;
      limit = λ k. omega (arith, pushed_limit on steps amount k once, progress.limit k);
      reached = IsReachedIn.more (pushed on steps amount) progress.reached (record {
        steps = steps;
        more = amount;
        chain = chain;
        fewest = rising_fewest arcs on own steps levelled rising;
        some = some;
        carries = carry;
        most = full;
        adds = refl;
      });
      few = omega (arith, progress.few);
      budget = budget_more nodes arcs on rounds own steps amount progress.flow.sized progress.budget levelled low rising chain some carry full;
    }

-- every amount that a trail carries fits with the value
pub progress_fits : (nodes : ℕ) (arcs : List Arc) (on : List ℕ) (value rounds : ℕ) (steps : List ResidualArc) → IsNetwork (record { nodes = nodes; arcs = arcs }) → (Reaches (HasUnbounded arcs) 0 1 → ⊥) → IsProgress nodes arcs on value rounds → IsChain arcs on steps → NoArcTwice steps → (amount : ℕ) → All (Carries arcs on amount) steps → value + amount < 2 ^ 63
progress_fits nodes arcs on value rounds steps net apart progress chain once amount carry =
    let leading = trail_by (IsOpen arcs on) (Leads arcs) steps 0 1 (λ s u v step. step.0) chain in
    omega (
      arith,
      net.bounded,
      value_le_sum nodes arcs (pushed on steps amount) (value + amount) net.two (AreEnds-from_test nodes arcs net.ends) apart
          (pushed_flow arcs on steps amount progress.flow leading carry once)
          (pushed_value arcs on steps amount value progress.flow.sized progress.worth leading carry once),
    )

-- a round along a trail that rises by some levels leads on, and keeps the levels
pub round_more : (nodes : ℕ) (arcs : List Arc) (old new : Progress) (own : ℕ → ℕ) (steps : List ResidualArc) → IsProgress nodes arcs old.on.items old.value old.rounds → IsLevelled arcs old.on.items own → own 1 ≤ nodes → IsTrail (Rises arcs own) 0 steps 1 → IsChain arcs old.on.items steps → AddsRound arcs steps old new → IsProgress nodes arcs new.on.items new.value new.rounds × IsLevelled arcs new.on.items own × (old.value < new.value)
round_more nodes arcs old new own steps progress levelled low rising chain round = (
  rw (round.push.adds, round.value, round.rounds) (progress_more nodes arcs old.on.items old.value old.rounds own steps round.amount progress levelled low rising chain round.push.some round.push.carries round.push.most),
  rw round.push.adds (record { source = levelled.source; near = near_pushed arcs old.on.items own steps 0 1 round.amount rising levelled.near }),
  omega (arith, round.value, round.push.some),
)
