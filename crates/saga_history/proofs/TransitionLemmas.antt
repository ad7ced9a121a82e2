-- What each step has behind it, by its state.
use Rattle.std.proofs.Common.{◌≡◌, ℕ, ◌+◌, ◌*◌, ◌<◌, ◌≤◌, Bool, true, false, cond, List, [], ◌∷◌, length, eqb, refl, sym, subst, inl, inr, arith}
use Rattle.std.specs.Prelude.{count_by}
use Rattle.std.proofs.lemmas.Bool.{cases_Bool, eqb-true}
use Rattle.std.proofs.lemmas.List.Sums.{sum_by-cons}
use Rattle.saga_def.specs.Contents.{Contents}
use Rattle.saga_case.specs.declared.states.StepState.{StepState}
use Rattle.saga_case.specs.declared.states.StepState.TheVariants.{Waiting, Void}
use Rattle.saga_history.specs.declared.transitions.Transition.{Transition}
use Rattle.saga_history.specs.declared.transitions.Transition.TheVariants as transition
use Rattle.saga_history.specs.Changes.{Change, opens, moves, starts_plan}
use Rattle.saga_history.specs.States.{same_transition, state_before, state_after, unvoided, transitions, end_state}
use Rattle.saga_history.specs.Rules.{tries, undo_tries, MeetsCondition, StepMay}
use Rattle.saga_history.specs.Tallies.{count_of, one, was_begun, has_committed, has_failed, undo_begun, has_undone, has_fixed, Tally}
use Rattle.saga_history.proofs.SagaLemmas.{IsLegalUnder}

-- a sequence of one step with so many tries: each transition begins where the last one ended, and misses are counted
abbrev pub IsCounted : ℕ → ℕ → List Transition → Transition → Type 0
IsCounted t u ms transition.Missed = count_of transition.Missed ms + 1 < t
IsCounted t u ms transition.UndoMissed = count_of transition.UndoMissed ms + 1 < u
IsCounted t u ms _ = Unit {0}

abbrev pub AreInSequence : ℕ → ℕ → List Transition → Type 0
AreInSequence t u [] = Unit {0}
AreInSequence t u (m ∷ ms) = (unvoided (end_state ms) ≡ state_before m) × IsCounted t u ms m × AreInSequence t u ms

counted : (d : Contents) (l : List Change) (s : ℕ) (m : Transition) → MeetsCondition d l s m → IsCounted (tries d s) (undo_tries d s) (transitions l s) m
counted d l s transition.Missed condition = condition
counted d l s transition.UndoMissed condition = condition
counted d l s _ condition = tt

pub transitions_own : (s t : ℕ) (m : Transition) (l : List Change) → eqb s t ≡ true → transitions (moves t m ∷ l) s ≡ m ∷ transitions l s
transitions_own s t m l is = rw is refl

pub transitions_other : (s t : ℕ) (m : Transition) (l : List Change) → eqb s t ≡ false → transitions (moves t m ∷ l) s ≡ transitions l s
transitions_other s t m l is = rw is refl

-- the transitions of a step are such a sequence
pub in_sequence : (d : Contents) (s : ℕ) (l : List Change) → IsLegalUnder d l → AreInSequence (tries d s) (undo_tries d s) (transitions l s)
in_sequence d s [] legal = tt
in_sequence d s (opens k ∷ l) legal = rw legal tt
in_sequence d s (moves t m ∷ l) legal = elim (cases_Bool (eqb s t)) [
  | inl own ↦
      let same : t ≡ s = sym (eqb-true s t own) in
      let may : StepMay d l s m = subst (λ (v : ℕ). StepMay d l v m) same legal.0 in
      rw (transitions_own s t m l own) (may.begins, counted d l s m may.condition, in_sequence d s l legal.1)
  | inr other ↦ rw (transitions_other s t m l other) (in_sequence d s l legal.1)
]
in_sequence d s (starts_plan ∷ l) legal = in_sequence d s l legal.1
in_sequence d s (_ ∷ l) legal = in_sequence d s l legal.1

pub count-cons : {A : Type 0} (p : A → Bool) (e : A) (h : List A) → count_by p (e ∷ h) ≡ one (p e) + count_by p h
count-cons p e h = sum_by-cons (λ x. cond (p x) 1 0) e h

-- all nine counts after one more transition
pub record Counts (m : Transition) (ms : List Transition) : Type 0 where
  pub a : count_of transition.StartRun (m ∷ ms) ≡ one (same_transition transition.StartRun m) + count_of transition.StartRun ms
  pub b : count_of transition.Commit (m ∷ ms) ≡ one (same_transition transition.Commit m) + count_of transition.Commit ms
  pub c : count_of transition.Missed (m ∷ ms) ≡ one (same_transition transition.Missed m) + count_of transition.Missed ms
  pub d : count_of transition.Fail (m ∷ ms) ≡ one (same_transition transition.Fail m) + count_of transition.Fail ms
  pub e : count_of transition.StartUndo (m ∷ ms) ≡ one (same_transition transition.StartUndo m) + count_of transition.StartUndo ms
  pub f : count_of transition.Undone (m ∷ ms) ≡ one (same_transition transition.Undone m) + count_of transition.Undone ms
  pub g : count_of transition.UndoMissed (m ∷ ms) ≡ one (same_transition transition.UndoMissed m) + count_of transition.UndoMissed ms
  pub h : count_of transition.UndoFail (m ∷ ms) ≡ one (same_transition transition.UndoFail m) + count_of transition.UndoFail ms
  pub i : count_of transition.Void (m ∷ ms) ≡ one (same_transition transition.Void m) + count_of transition.Void ms

counts : (m : Transition) (ms : List Transition) → Counts m ms
counts m ms = record {
  a = count-cons (same_transition transition.StartRun) m ms;
  b = count-cons (same_transition transition.Commit) m ms;
  c = count-cons (same_transition transition.Missed) m ms;
  d = count-cons (same_transition transition.Fail) m ms;
  e = count-cons (same_transition transition.StartUndo) m ms;
  f = count-cons (same_transition transition.Undone) m ms;
  g = count-cons (same_transition transition.UndoMissed) m ms;
  h = count-cons (same_transition transition.UndoFail) m ms;
  i = count-cons (same_transition transition.Void) m ms;
}

tally_unvoided : (ms : List Transition) (x : StepState) → Tally ms x → Tally ms (unvoided x)
tally_unvoided ms Void t = record { committed = t.committed; undone = t.undone; failed = t.failed; fixed = t.fixed; started = t.started; undo_started = t.undo_started; in_all = t.in_all }
tally_unvoided ms _ t = t

tally_more : (m : Transition) (ms : List Transition) → Counts m ms → Tally ms (state_before m) → Tally (m ∷ ms) (state_after m)
tally_more transition.StartRun ms n t = record { committed = omega (arith, n, t); undone = omega (arith, n, t); failed = omega (arith, n, t); fixed = omega (arith, n, t); started = omega (arith, n, t); undo_started = omega (arith, n, t); in_all = omega (arith, n, t) }
tally_more _ ms n t = record { committed = omega (arith, n, t); undone = omega (arith, n, t); failed = omega (arith, n, t); fixed = omega (arith, n, t); started = omega (arith, n, t); undo_started = omega (arith, n, t); in_all = omega (arith, n, t) }

pub tally : (t u : ℕ) (ms : List Transition) → AreInSequence t u ms → Tally ms (end_state ms)
tally t u [] steps = record { committed = refl; undone = refl; failed = refl; fixed = refl; started = omega arith; undo_started = omega arith; in_all = omega arith }
tally t u (m ∷ ms) steps = tally_more m ms (counts m ms) (subst (Tally ms) steps.0 (tally_unvoided ms (end_state ms) (tally t u ms steps.2)))

-- there are fewer misses than tries
pub record FewMisses (t u : ℕ) (ms : List Transition) : Type 0 where
  pub few : count_of transition.Missed ms < t
  pub few_undo : count_of transition.UndoMissed ms < u

misses_more : (t u : ℕ) (m : Transition) (ms : List Transition) → Counts m ms → IsCounted t u ms m → FewMisses t u ms → FewMisses t u (m ∷ ms)
misses_more t u transition.Missed ms n c f = record { few = omega (arith, n, f, c); few_undo = omega (arith, n, f) }
misses_more t u transition.UndoMissed ms n c f = record { few = omega (arith, n, f); few_undo = omega (arith, n, f, c) }
misses_more t u _ ms n c f = record { few = omega (arith, n, f); few_undo = omega (arith, n, f) }

pub few_misses : (t u : ℕ) (ms : List Transition) → 1 ≤ t → 1 ≤ u → AreInSequence t u ms → FewMisses t u ms
few_misses t u [] some some_undo steps = record { few = omega (arith, some); few_undo = omega (arith, some_undo) }
few_misses t u (m ∷ ms) some some_undo steps = misses_more t u m ms (counts m ms) steps.1 (few_misses t u ms some some_undo steps.2)

events_by_state : (x : StepState) (a b c d e f g h i t u n : ℕ) → b + i ≡ one (has_committed x) → f ≡ one (has_undone x) → d ≡ one (has_failed x) → h ≡ one (has_fixed x) → a ≡ c + one (was_begun x) → e ≡ g + one (undo_begun x) → n ≡ a + b + c + d + e + f + g + h + i → c < t → g < u → n ≤ 2 * (t + u)
events_by_state Waiting a b c d e f g h i t u n p q r s v w y few fewu = omega arith
events_by_state _ a b c d e f g h i t u n p q r s v w y few fewu = omega arith

-- at most two events for each try
pub few_moves : (t u : ℕ) (ms : List Transition) → 1 ≤ t → 1 ≤ u → AreInSequence t u ms → length ms ≤ 2 * (t + u)
few_moves t u ms some some_undo steps =
    let k = tally t u ms steps in
    let f = few_misses t u ms some some_undo steps in
    events_by_state (end_state ms) _ _ _ _ _ _ _ _ _ t u _ k.committed k.undone k.failed k.fixed k.started k.undo_started k.in_all f.few f.few_undo
