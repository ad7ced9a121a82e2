-- Where no task is allowed in a saga, it is ended, stuck or planning, or has a busy step.
use Rattle.std.proofs.Common.{IsSomeAnd, ◌≡◌, ℕ, zero, suc, ◌<◌, Bool, true, false, ◌&&◌, List, length, Option, Some, refl, sym, ap, ◌∙◌, subst, ◌⊎◌, inl, inr, arith}
use Rattle.std.specs.Prelude.{All, not}
use Rattle.std.proofs.lemmas.Bool.{cases_Bool, cases_eq, and_parts, false_from_ne_true, not-true, not_from_false}
use Rattle.saga_def.specs.Contents.{Contents}
use Rattle.saga_def.specs.Sound.{IsSound}
use Rattle.saga_def.specs.Order.{IsClosed}
use Rattle.saga_def.proofs.OrderLemmas.{known_on, known_step}
use Rattle.saga_case.specs.declared.states.StepState.{StepState}
use Rattle.saga_case.specs.declared.states.StepState.TheVariants.{Waiting, Running, Committed, Void, Undoing, Fixed}
use Rattle.saga_case.specs.States.{commits}
use Rattle.saga_case.proofs.ClosedLemmas.{closed_direct}
use Rattle.saga_order.specs.Shape.{shape_of}
use Rattle.saga_order.proofs.LawLemmas.{sets_have_first, sets_have_last, ordered_from_sound}
use Rattle.saga_history.specs.declared.events.Event.{Event}
use Rattle.saga_history.specs.declared.transitions.Transition.TheVariants as transition
use Rattle.saga_history.specs.declared.tasks.Task.TheVariants as task
use Rattle.saga_history.specs.Changes.{Change, moves, starts_plan, changes}
use Rattle.saga_history.specs.States.{state, unvoided, is_busy, is_standing, is_off}
use Rattle.saga_history.specs.Turns.{turn, goal}
use Rattle.saga_history.specs.declared.turns.Turn.{Turn}
use Rattle.saga_history.specs.declared.turns.Turn.TheVariants.{Going, Draining, Planning, Stuck}
use Rattle.saga_history.specs.Rules.{StepMay, SagaMay, IsEnded, definition, IsLegal}
use Rattle.saga_history.specs.Progress.{HasBusyStep, IsEndedOrWaits, AllEndedOrWait}
use Rattle.saga_history.proofs.SagaLemmas.{saga_is_legal, IsLegalUnder, legal_under}
use Rattle.saga_history.proofs.VoidLemmas.{unvoided-commits}
use Rattle.saga_history.proofs.NeedLemmas.{is_waiting}
use Rattle.saga_history.proofs.HeadlineLemmas.{goal_closed, definition_sound}
use Rattle.saga_history.proofs.TurnLemmas.{NoStepIsBusy, drained_from, suits, goal_suits}

below_more : (p : ℕ → Bool) (n : ℕ) → (p n ≡ true) ⊎ (p n ≡ false) → ((s : ℕ) → s < n → p s ≡ false) ⊎ ((s : ℕ) × (s < n) × (p s ≡ true)) → ((s : ℕ) → s < suc n → p s ≡ false) ⊎ ((s : ℕ) × (s < suc n) × (p s ≡ true))
below_more p n (inr fails) (inl rest) = inl (λ s lt. elim (cases_eq s n) [ inl e ↦ ap p e ∙ fails | inr ne ↦ rest s (omega arith) ])
below_more p n (inr fails) (inr found) = inr (found.0, omega (arith, found.1), found.2)
below_more p n (inl passes) rest = inr (n, omega arith, passes)

-- no step below a bound passes, or one does
search_below : (p : ℕ → Bool) (n : ℕ) → ((s : ℕ) → s < n → p s ≡ false) ⊎ ((s : ℕ) × (s < n) × (p s ≡ true))
search_below p zero = inl (λ s lt. absurd (omega arith))
search_below p (suc n) = below_more p n (cases_Bool (p n)) (search_below p n)

waits_from : (x : StepState) → is_busy x ≡ false → suits true x ≡ true → is_standing x ≡ false → is_waiting x ≡ true
waits_from Waiting q m s = refl
waits_from _ q m s = cc

stands_from : (x : StepState) → is_busy x ≡ false → suits true x ≡ true → (is_waiting x ≡ true → ⊥) → is_standing x ≡ true
stands_from Waiting q m s = absurd (s refl)
stands_from Committed q m s = refl
stands_from Void q m s = refl
stands_from Fixed q m s = refl
stands_from _ q m s = cc

is_waiting-eq : (x : StepState) → is_waiting x ≡ true → unvoided x ≡ Waiting
is_waiting-eq Waiting t = refl
is_waiting-eq _ t = cc

commits_from : (x : StepState) → is_busy x ≡ false → suits false x ≡ true → is_off x ≡ false → commits x ≡ true
commits_from Committed q m s = refl
commits_from Void q m s = refl
commits_from _ q m s = cc

off_from : (x : StepState) → is_busy x ≡ false → suits false x ≡ true → (commits x ≡ true → ⊥) → is_off x ≡ true
off_from Running q m s = cc
off_from Committed q m s = absurd (s refl)
off_from Void q m s = absurd (s refl)
off_from Undoing q m s = cc
off_from Fixed q m s = cc
off_from _ q m s = refl

both : (a b : Bool) → a ≡ true → b ≡ true → (a && b) ≡ true
both a b p q = rw (p, q) refl

-- what a saga that is going and has no busy step has
record Still (d : Contents) (l : List Change) : Type 0 where
  sound : IsSound d
  going : turn l ≡ Going
  none_busy : NoStepIsBusy d l
  closed : IsClosed d.needs (goal l)
  suit : (s : ℕ) → s < length d.steps → suits (goal l s) (state l s) ≡ true

-- a step of the goal that does not stand leads to one that may run
run_first : (d : Contents) (l : List Change) → Still d l → (s : ℕ) → s < length d.steps → goal l s ≡ true → is_standing (state l s) ≡ false → (t : ℕ) × StepMay d l t transition.StartRun
run_first d l g s lt wanted down =
    let waits = waits_from (state l s) (g.none_busy s lt) (rw wanted at (g.suit s lt)) down in
    let f = sets_have_first (shape_of d) (ordered_from_sound d g.sound) (λ (t : ℕ). goal l t && is_waiting (state l t)) s lt (both _ _ wanted waits) in
    let here = and_parts (goal l f.first) (is_waiting (state l f.first)) f.in_set in (
      f.first,
      record {
        is_step = f.within;
        begins = is_waiting-eq (state l f.first) here.1;
        condition = (
          g.going,
          here.0,
          λ a need.
              let below = known_on d.needs (length d.steps) g.sound.known f.first a need in
              let wanted' = closed_direct d.needs (goal l) g.closed f.first a here.0 need in
              stands_from (state l a) (g.none_busy a below) (rw wanted' at (g.suit a below)) (λ waiting. f.needs_none a need (both _ _ wanted' waiting)),
        );
      },
    )

-- a step outside the goal that is not off leads to one that may be undone
undo_last : (d : Contents) (l : List Change) → Still d l → (s : ℕ) → s < length d.steps → goal l s ≡ false → is_off (state l s) ≡ false → (t : ℕ) × StepMay d l t transition.StartUndo
undo_last d l g s lt away up =
    let stands = commits_from (state l s) (g.none_busy s lt) (rw away at (g.suit s lt)) up in
    let f = sets_have_last (shape_of d) (ordered_from_sound d g.sound) (λ (t : ℕ). not (goal l t) && commits (state l t)) s lt (both _ _ (not_from_false _ away) stands) in
    let here = and_parts (not (goal l f.last)) (commits (state l f.last)) f.in_set in
    let out = not-true _ here.0 in (
      f.last,
      record {
        is_step = f.within;
        begins = unvoided-commits (state l f.last) here.1;
        condition = (
          g.going,
          out,
          λ b need.
              let below = known_step d.needs (length d.steps) g.sound.known b f.last need in
              let away' : goal l b ≡ false = false_from_ne_true _ (λ kept. let low = closed_direct d.needs (goal l) g.closed b f.last kept need in let bad : true ≡ false = sym low ∙ out in cc) in
              off_from (state l b) (g.none_busy b below) (rw away' at (g.suit b below)) (λ committed. f.needed_by_none b need (both _ _ (not_from_false _ away') committed)),
        );
      },
    )

still_ends : (d : Contents) (l : List Change) → Still d l → ((s : ℕ) → StepMay d l s transition.StartRun → ⊥) → ((s : ℕ) → StepMay d l s transition.StartUndo → ⊥) → IsEnded d l
still_ends d l g no_run no_undo = record {
  going = g.going;
  stand = λ s lt wanted. elim (cases_Bool (is_standing (state l s))) [
    | inl up ↦ up
    | inr down ↦ let t = run_first d l g s lt wanted down in absurd (no_run t.0 t.1)
  ];
  off = λ s lt away. elim (cases_Bool (is_off (state l s))) [
    | inl off ↦ off
    | inr up ↦ let t = undo_last d l g s lt away up in absurd (no_undo t.0 t.1)
  ];
}

waits_going : (d : Contents) (l : List Change) → IsSound d → IsLegalUnder d l → turn l ≡ Going → ((s : ℕ) → StepMay d l s transition.StartRun → ⊥) → ((s : ℕ) → StepMay d l s transition.StartUndo → ⊥) → NoStepIsBusy d l ⊎ HasBusyStep d l → IsEndedOrWaits d l
waits_going d l sound legal going no_run no_undo (inr busy) = inr (inr (inr busy))
waits_going d l sound legal going no_run no_undo (inl quiet) =
    inl (still_ends d l (record { sound = sound; going = going; none_busy = quiet; closed = goal_closed d l legal; suit = goal_suits d l legal going }) no_run no_undo)

waits_draining : (d : Contents) (l : List Change) → turn l ≡ Draining → (SagaMay d l starts_plan → ⊥) → NoStepIsBusy d l ⊎ HasBusyStep d l → IsEndedOrWaits d l
waits_draining d l is no_plan (inr busy) = inr (inr (inr busy))
waits_draining d l is no_plan (inl quiet) = absurd (no_plan (is, drained_from d l quiet))

waits_at : (d : Contents) (l : List Change) → IsSound d → IsLegalUnder d l → ((s : ℕ) → StepMay d l s transition.StartRun → ⊥) → ((s : ℕ) → StepMay d l s transition.StartUndo → ⊥) → (SagaMay d l starts_plan → ⊥) → (t : Turn) → turn l ≡ t → IsEndedOrWaits d l
waits_at d l sound legal no_run no_undo no_plan Going is = waits_going d l sound legal is no_run no_undo (search_below (λ s. is_busy (state l s)) (length d.steps))
waits_at d l sound legal no_run no_undo no_plan Draining is = waits_draining d l is no_plan (search_below (λ s. is_busy (state l s)) (length d.steps))
waits_at d l sound legal no_run no_undo no_plan Planning is = inr (inr (inl is))
waits_at d l sound legal no_run no_undo no_plan Stuck is = inr (inl is)

holds_from : (o : Option Contents) (d : Contents) (P : Contents → Type 0) → o ≡ Some d → P d → IsSomeAnd o P
holds_from o d P is p = subst (λ v. IsSomeAnd v P) (sym is) p

pub all_ended_or_wait : (shelf : List Contents) (h : List Event) → All IsSound shelf → IsLegal shelf h → AllEndedOrWait shelf h
all_ended_or_wait shelf h sound legal = λ i d is none.
    let l = changes i h in
    waits_at d l (definition_sound shelf l d sound is) (legal_under shelf d l (saga_is_legal shelf i h legal) is)
    (λ s may. none (task.Run i s) refl (holds_from (definition shelf l) d (λ c. SagaMay c l (moves s transition.StartRun)) is may))
    (λ s may. none (task.Undo i s) refl (holds_from (definition shelf l) d (λ c. SagaMay c l (moves s transition.StartUndo)) is may))
    (λ may. none (task.Plan i) refl (holds_from (definition shelf l) d (λ c. SagaMay c l starts_plan) is may))
    (turn l) refl
