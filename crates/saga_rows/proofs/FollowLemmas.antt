-- What a row says of its saga, and how it follows each change.
use Rattle.std.proofs.Common.{◌≡◌, ◌≢◌, ℕ, ◌+◌, ◌<◌, ◌≤◌, Bool, true, false, List, [], ◌∷◌, length, refl, sym, ap, ◌∙◌, subst, inl, inr, arith, get_or, set, Some}
use Rattle.std.specs.Prelude.{slice_get}
use Rattle.std.specs.List.{count_by}
use Rattle.std.proofs.lemmas.Bool.{cases_eq, eq-eqb, ne_eqb}
use Rattle.std.proofs.lemmas.Option.{slice_get-get_or}
use Rattle.std.proofs.lemmas.List.{length-set, get_or-set_same, get_or-set_other, ext_get_or, get_or-replicate, length-replicate}
use Rattle.std.proofs.lemmas.List.Sums.{sum_by-cons}
use Rattle.saga_def.specs.Contents.{Contents}
use Rattle.saga_def.specs.Order.{NeedsDirectly}
use Rattle.saga_def.specs.Sound.{IsSound}
use Rattle.saga_def.proofs.OrderLemmas.{known_on, known_step}
use Rattle.saga_case.specs.declared.answers.Answer.{Answer}
use Rattle.saga_case.specs.declared.answers.Answer.TheVariants as answer
use Rattle.saga_case.specs.declared.states.StepState.{StepState}
use Rattle.saga_case.specs.declared.states.StepState.TheVariants.{Waiting, Running, Committed, Undoing}
use Rattle.saga_case.specs.Right.{IsRight}
use Rattle.saga_case.specs.Situation.{situation}
use Rattle.saga_case.specs.Terms.{terms_of}
use Rattle.saga_history.specs.Changes.{Change, opens, moves, starts_plan, drops_plan, adopts, aborts}
use Rattle.saga_history.specs.Rules.{HasPhase, IsEnded, SagaMay, StepMay, misses_of, tries, undo_misses_of, undo_tries}
use Rattle.saga_case.specs.States.{commits}
use Rattle.saga_history.specs.States.{unvoided, end_state, is_busy, is_off, is_standing, same_transition, state, state_after, states, transitions}
use Rattle.saga_history.specs.Turns.{aborted, goal, present_case, turn_after_abort, turn_after_transition}
use Rattle.saga_history.specs.declared.tasks.Phase.{Phase}
use Rattle.saga_history.specs.declared.tasks.Phase.TheVariants as phase
use Rattle.saga_history.specs.declared.transitions.Transition.{Transition}
use Rattle.saga_history.specs.declared.transitions.Transition.TheVariants as transition
use Rattle.saga_history.specs.declared.turns.Turn.{Turn}
use Rattle.saga_history.specs.declared.turns.Turn.TheVariants.{Going, Draining, Planning, Stuck}
use Rattle.saga_history.proofs.VoidLemmas.{itself_but_committed, unvoided-commits, commits-unvoided}
use Rattle.saga_history.proofs.SagaLemmas.{IsLegalUnder}
use Rattle.saga_history.proofs.TallyLemmas.{few_of}
use Rattle.saga_history.proofs.TransitionLemmas.{transitions_own, transitions_other}
use Rattle.saga_history.proofs.TurnLemmas.{any_step, drained_from, none_busy, none_busy_from, states_count}
use Rattle.saga_history.proofs.TurnLemmas as turns
use Rattle.saga_rows.specs.Row.{FitsIn, HasRoom, MayPlan, MayRun, MayUndo, Row, RowIsEnded, is_finished, mark_at, miss_in, new_row, one_if, row_aborting, row_adopting, row_after, row_turning, state_at, undo_miss_in}
use Rattle.saga_rows.specs.Follows.{Follows, IsDrained, IsIn, IsNotOver, RowHasPhase, RowMay, RowMayAbort, row_case}

-- a list of which one place is set, against a function
set_read : {A : Type 0} (xs : List A) (s t : ℕ) (x none : A) (now : ℕ → A) → s < length xs → now s ≡ x → (t ≢ s → get_or xs t none ≡ now t) → get_or (set xs s x) t none ≡ now t
set_read xs s t x none now lt here there = elim (cases_eq t s) [
  | inl same ↦ ap (λ (v : ℕ). get_or (set xs s x) v none) same ∙ get_or-set_same xs s x none lt ∙ sym here ∙ ap now (sym same)
  | inr apart ↦ get_or-set_other xs s t x none apart ∙ there apart
]

own : (l : List Change) (s : ℕ) (t : Transition) → transitions (moves s t ∷ l) s ≡ t ∷ transitions l s
own l s t = transitions_own s s t l (eq-eqb s s refl)

other : (l : List Change) (s u : ℕ) (t : Transition) → u ≢ s → transitions (moves s t ∷ l) u ≡ transitions l u
other l s u t apart = transitions_other u s t l (ne_eqb u s apart)

miss_small : (t : Transition) → (miss_in t ≤ 1) × (undo_miss_in t ≤ 1)
miss_small transition.StartRun = (omega arith, omega arith)
miss_small _ = (omega arith, omega arith)

most_tries : (d : Contents) (s : ℕ) → IsSound d → s < length d.steps → (tries d s ≤ 9) × (undo_tries d s ≤ 9)
most_tries d s sound lt =
    let t = sound.tries s any_step lt in
    rw (slice_get-get_or d.steps s any_step lt) (t.few, t.few_undo)

finished_from : (wanted : Bool) (x : StepState) → (wanted ≡ true → is_standing x ≡ true) → (wanted ≡ false → is_off x ≡ true) → is_finished wanted x ≡ true
finished_from true x stand off = stand refl
finished_from false x stand off = off refl

module _ (shelf : List Contents) (row : Row) (l : List Change) (f : Follows shelf row l) where
  standing_as : (s a : ℕ) → NeedsDirectly row.definition.needs s a → is_standing (state_at row.states a) ≡ is_standing (state l a)
  standing_as s a needed = ap is_standing (f.states_are a (known_on row.definition.needs (length row.definition.steps) f.sound.known s a needed))

  off_as : (b s : ℕ) → NeedsDirectly row.definition.needs b s → is_off (state_at row.states b) ≡ is_off (state l b)
  off_as b s needed = ap is_off (f.states_are b (known_step row.definition.needs (length row.definition.steps) f.sound.known b s needed))

  run_into : (s : ℕ) → MayRun row s → StepMay row.definition l s transition.StartRun
  run_into s may = record {
    is_step = may.is_step;
    begins = ap unvoided (sym (f.states_are s may.is_step) ∙ may.waiting);
    condition = (sym f.turn_is ∙ may.going, sym (f.goal_is s may.is_step) ∙ may.wanted, λ a needed. sym (standing_as s a needed) ∙ may.stand a needed);
  }

  run_from : (s : ℕ) → StepMay row.definition l s transition.StartRun → MayRun row s
  run_from s may = record {
    is_step = may.is_step;
    going = f.turn_is ∙ may.condition.0;
    wanted = f.goal_is s may.is_step ∙ may.condition.1;
    waiting = f.states_are s may.is_step ∙ itself_but_committed (state l s) Waiting (λ is. cc) may.begins;
    stand = λ a needed. standing_as s a needed ∙ may.condition.2 a needed;
  }

  undo_into : (s : ℕ) → MayUndo row s → StepMay row.definition l s transition.StartUndo
  undo_into s may = record {
    is_step = may.is_step;
    begins = unvoided-commits (state l s) (ap commits (sym (f.states_are s may.is_step)) ∙ may.committed);
    condition = (sym f.turn_is ∙ may.going, sym (f.goal_is s may.is_step) ∙ may.unwanted, λ b needed. sym (off_as b s needed) ∙ may.off b needed);
  }

  undo_from : (s : ℕ) → StepMay row.definition l s transition.StartUndo → MayUndo row s
  undo_from s may = record {
    is_step = may.is_step;
    going = f.turn_is ∙ may.condition.0;
    unwanted = f.goal_is s may.is_step ∙ may.condition.1;
    committed = ap commits (f.states_are s may.is_step) ∙ commits-unvoided (state l s) may.begins;
    off = λ b needed. off_as b s needed ∙ may.condition.2 b needed;
  }

  in_into : (s : ℕ) (x : StepState) → IsIn row s x → state l s ≡ x
  in_into s x is = sym (f.states_are s is.is_step) ∙ is.here

  in_from : (s : ℕ) (x : StepState) → x ≢ Committed → s < length row.definition.steps → unvoided (state l s) ≡ x → IsIn row s x
  in_from s x apart lt is = record { is_step = lt; here = f.states_are s lt ∙ itself_but_committed (state l s) x apart is }

  -- what the row allows is allowed
  pub may_into : (s : ℕ) (t : Transition) → IsLegalUnder row.definition l → RowMay row s t → StepMay row.definition l s t
  may_into s transition.StartRun legal may = run_into s may
  may_into s transition.Commit legal may = record { is_step = may.is_step; begins = ap unvoided (in_into s Running may); condition = tt }
  may_into s transition.Void legal may = record { is_step = may.is_step; begins = ap unvoided (in_into s Running may); condition = tt }
  may_into s transition.Missed legal may = record { is_step = may.0.is_step; begins = ap unvoided (in_into s Running may.0); condition = omega (arith, may.1, f.misses_are s may.0.is_step) }
  may_into s transition.Fail legal may = record { is_step = may.0.is_step; begins = ap unvoided (in_into s Running may.0); condition = let few = (few_of row.definition l s f.sound legal may.0.is_step).few in omega (arith, may.1, f.misses_are s may.0.is_step, few) }
  may_into s transition.StartUndo legal may = undo_into s may
  may_into s transition.Undone legal may = record { is_step = may.is_step; begins = ap unvoided (in_into s Undoing may); condition = tt }
  may_into s transition.UndoMissed legal may = record { is_step = may.0.is_step; begins = ap unvoided (in_into s Undoing may.0); condition = omega (arith, may.1, f.undo_misses_are s may.0.is_step) }
  may_into s transition.UndoFail legal may = record { is_step = may.0.is_step; begins = ap unvoided (in_into s Undoing may.0); condition = let few = (few_of row.definition l s f.sound legal may.0.is_step).few_undo in omega (arith, may.1, f.undo_misses_are s may.0.is_step, few) }

  -- and the other way round
  pub may_from : (s : ℕ) (t : Transition) → StepMay row.definition l s t → RowMay row s t
  may_from s transition.StartRun may = run_from s may
  may_from s transition.Commit may = in_from s Running (λ is. cc) may.is_step may.begins
  may_from s transition.Void may = in_from s Running (λ is. cc) may.is_step may.begins
  may_from s transition.Missed may = (in_from s Running (λ is. cc) may.is_step may.begins, omega (arith, may.condition, f.misses_are s may.is_step))
  may_from s transition.Fail may = (in_from s Running (λ is. cc) may.is_step may.begins, omega (arith, may.condition, f.misses_are s may.is_step))
  may_from s transition.StartUndo may = undo_from s may
  may_from s transition.Undone may = in_from s Undoing (λ is. cc) may.is_step may.begins
  may_from s transition.UndoMissed may = (in_from s Undoing (λ is. cc) may.is_step may.begins, omega (arith, may.condition, f.undo_misses_are s may.is_step))
  may_from s transition.UndoFail may = (in_from s Undoing (λ is. cc) may.is_step may.begins, omega (arith, may.condition, f.undo_misses_are s may.is_step))

  -- there is room to count one miss more
  pub has_room : (s : ℕ) (t : Transition) → IsLegalUnder row.definition l → s < length row.definition.steps → HasRoom row s t
  has_room s t legal lt =
      let few = few_of row.definition l s f.sound legal lt in
      let small = miss_small t in
      let most = most_tries row.definition s f.sound lt in
      record {
        few = omega (arith, few.few, small.0, most.0, f.misses_are s lt);
        few_undo = omega (arith, few.few_undo, small.1, most.1, f.undo_misses_are s lt);
      }

  -- while the saga is planned, no step is busy
  pub drained_for_planning : IsLegalUnder row.definition l → row.turn ≡ Planning → IsDrained row
  drained_for_planning legal planning = λ s lt. ap is_busy (f.states_are s lt) ∙ none_busy row.definition l legal (sym f.turn_is ∙ planning) s lt

  -- the row follows each transition
  pub follows_move : (s : ℕ) (t : Transition) → s < length row.definition.steps → Follows shelf (row_after row s t) (moves s t ∷ l)
  follows_move s t lt = record {
    defined = f.defined;
    sound = f.sound;
    sized = record {
      states = length-set row.states s (state_after t) ∙ f.sized.states;
      goal = f.sized.goal;
      misses = length-set row.misses s (get_or row.misses s 0 + miss_in t) ∙ f.sized.misses;
      undo_misses = length-set row.undo_misses s (get_or row.undo_misses s 0 + undo_miss_in t) ∙ f.sized.undo_misses;
    };
    states_are = λ u below. set_read row.states s u (state_after t) Waiting (state (moves s t ∷ l)) (omega (arith, f.sized.states, lt))
        (ap end_state (own l s t))
        (λ apart. f.states_are u below ∙ sym (ap end_state (other l s u t apart)));
    goal_is = f.goal_is;
    misses_are = λ u below. set_read row.misses s u (get_or row.misses s 0 + miss_in t) 0 (misses_of (moves s t ∷ l)) (omega (arith, f.sized.misses, lt))
        (let grows : misses_of (moves s t ∷ l) s ≡ miss_in t + misses_of l s = ap (count_by (same_transition transition.Missed)) (own l s t) ∙ sum_by-cons (λ r. one_if (same_transition transition.Missed r)) t (transitions l s) in omega (arith, grows, f.misses_are s lt))
        (λ apart. f.misses_are u below ∙ sym (ap (count_by (same_transition transition.Missed)) (other l s u t apart)));
    undo_misses_are = λ u below. set_read row.undo_misses s u (get_or row.undo_misses s 0 + undo_miss_in t) 0 (undo_misses_of (moves s t ∷ l)) (omega (arith, f.sized.undo_misses, lt))
        (let grows : undo_misses_of (moves s t ∷ l) s ≡ undo_miss_in t + undo_misses_of l s = ap (count_by (same_transition transition.UndoMissed)) (own l s t) ∙ sum_by-cons (λ r. one_if (same_transition transition.UndoMissed r)) t (transitions l s) in omega (arith, grows, f.undo_misses_are s lt))
        (λ apart. f.undo_misses_are u below ∙ sym (ap (count_by (same_transition transition.UndoMissed)) (other l s u t apart)));
    turn_is = ap (turn_after_transition t) f.turn_is;
    aborted_is = f.aborted_is;
  }

  states_same : states row.definition l ≡ row.states
  states_same = ext_get_or Waiting (states row.definition l) row.states (states_count row.definition l ∙ sym f.sized.states)
      (λ s lt. let below : s < length row.definition.steps = omega (arith, lt, states_count row.definition l) in turns.state_at row.definition l s Waiting below ∙ sym (f.states_are s below))

  pub present_same : present_case row.definition l ≡ row_case row
  present_same = ap (λ (xs : List StepState). situation row.definition xs (aborted l)) states_same ∙ ap (situation row.definition row.states) (sym f.aborted_is)

  pub plan_into : MayPlan row → SagaMay row.definition l starts_plan
  plan_into may = (
    sym f.turn_is ∙ may.draining,
    drained_from row.definition l (λ s lt. ap is_busy (sym (f.states_are s lt)) ∙ may.drained s lt),
  )

  pub plan_from : SagaMay row.definition l starts_plan → MayPlan row
  plan_from may = record {
    draining = f.turn_is ∙ may.0;
    drained = λ s lt. ap is_busy (f.states_are s lt) ∙ none_busy_from row.definition l may.1 s lt;
  }

  -- the row follows what is planned
  pub follows_plan : Follows shelf (row_turning row Planning) (starts_plan ∷ l)
  follows_plan = record {
    defined = f.defined;
    sound = f.sound;
    sized = record { states = f.sized.states; goal = f.sized.goal; misses = f.sized.misses; undo_misses = f.sized.undo_misses };
    states_are = f.states_are;
    goal_is = f.goal_is;
    misses_are = f.misses_are;
    undo_misses_are = f.undo_misses_are;
    turn_is = refl;
    aborted_is = f.aborted_is;
  }

  pub follows_drop : Follows shelf (row_turning row Draining) (drops_plan ∷ l)
  follows_drop = record {
    defined = f.defined;
    sound = f.sound;
    sized = record { states = f.sized.states; goal = f.sized.goal; misses = f.sized.misses; undo_misses = f.sized.undo_misses };
    states_are = f.states_are;
    goal_is = f.goal_is;
    misses_are = f.misses_are;
    undo_misses_are = f.undo_misses_are;
    turn_is = refl;
    aborted_is = f.aborted_is;
  }

  pub follows_abort : Follows shelf (row_aborting row) (aborts ∷ l)
  follows_abort = record {
    defined = f.defined;
    sound = f.sound;
    sized = record { states = f.sized.states; goal = f.sized.goal; misses = f.sized.misses; undo_misses = f.sized.undo_misses };
    states_are = f.states_are;
    goal_is = f.goal_is;
    misses_are = f.misses_are;
    undo_misses_are = f.undo_misses_are;
    turn_is = ap turn_after_abort f.turn_is;
    aborted_is = refl;
  }

  pub fits : (a : Answer) → IsRight (terms_of (present_case row.definition l)) a → FitsIn row a
  fits (answer.Plan plan) right = right.shape.kept
  fits (answer.Blocked chain) right = tt

  pub follows_adopt : (a : Answer) → FitsIn row a → Follows shelf (row_adopting row a) (adopts a ∷ l)
  follows_adopt (answer.Plan plan) fit = record {
    defined = f.defined;
    sound = f.sound;
    sized = record { states = f.sized.states; goal = fit; misses = f.sized.misses; undo_misses = f.sized.undo_misses };
    states_are = f.states_are;
    goal_is = λ s lt. refl;
    misses_are = f.misses_are;
    undo_misses_are = f.undo_misses_are;
    turn_is = refl;
    aborted_is = f.aborted_is;
  }
  follows_adopt (answer.Blocked chain) fit = record {
    defined = f.defined;
    sound = f.sound;
    sized = record { states = f.sized.states; goal = f.sized.goal; misses = f.sized.misses; undo_misses = f.sized.undo_misses };
    states_are = f.states_are;
    goal_is = f.goal_is;
    misses_are = f.misses_are;
    undo_misses_are = f.undo_misses_are;
    turn_is = refl;
    aborted_is = f.aborted_is;
  }

  -- ended by the row, and by the changes
  pub ended_into : RowIsEnded row → IsEnded row.definition l
  ended_into ended = record {
    going = sym f.turn_is ∙ ended.going;
    stand = λ s lt wanted.
        let mark : mark_at row.goal s ≡ true = f.goal_is s lt ∙ wanted in
        ap is_standing (sym (f.states_are s lt)) ∙ (rw mark at (ended.finished s lt));
    off = λ s lt away.
        let mark : mark_at row.goal s ≡ false = f.goal_is s lt ∙ away in
        ap is_off (sym (f.states_are s lt)) ∙ (rw mark at (ended.finished s lt));
  }

  pub ended_from : IsEnded row.definition l → RowIsEnded row
  ended_from ended = record {
    going = f.turn_is ∙ ended.going;
    finished = λ s lt. rw (f.goal_is s lt, f.states_are s lt) (finished_from (goal l s) (state l s) (ended.stand s lt) (ended.off s lt));
  }

  pub abort_into : RowMayAbort row → SagaMay row.definition l aborts
  abort_into may = (
    sym f.aborted_is ∙ may.once,
    λ ended. let e = ended_from ended in (subst (λ (v : Turn). IsNotOver v row) e.going may.not_over) e,
    λ stuck. subst (λ (v : Turn). IsNotOver v row) (f.turn_is ∙ stuck) may.not_over,
  )

  pub abort_from : SagaMay row.definition l aborts → RowMayAbort row
  abort_from may = record { once = f.aborted_is ∙ may.0; not_over = over row.turn refl }
    where
      over : (r : Turn) → row.turn ≡ r → IsNotOver r row
      over Going is = λ ended. may.1 (ended_into ended)
      over Draining is = tt
      over Planning is = tt
      over Stuck is = may.2 (sym f.turn_is ∙ is)

  pub phase_into : (p : Phase) → RowHasPhase row p → HasPhase row.definition l p
  phase_into phase.Going is = (sym f.turn_is ∙ is.0, λ ended. is.1 (ended_from ended))
  phase_into phase.Ended is = ended_into is
  phase_into _ is = sym f.turn_is ∙ is

-- a row in which nothing has happened follows an opening
pub follows_open : (shelf : List Contents) (k : ℕ) (c : Contents) → slice_get shelf k ≡ Some c → IsSound c → Follows shelf (new_row c) (opens k ∷ [])
follows_open shelf k c found sound = record {
  defined = found;
  sound = sound;
  sized = record {
    states = length-replicate {A = StepState} (length c.steps) Waiting;
    goal = length-replicate {A = Bool} (length c.steps) true;
    misses = length-replicate {A = ℕ} (length c.steps) 0;
    undo_misses = length-replicate {A = ℕ} (length c.steps) 0;
  };
  states_are = λ s lt. get_or-replicate (length c.steps) s Waiting Waiting lt;
  goal_is = λ s lt. get_or-replicate (length c.steps) s true false lt;
  misses_are = λ s lt. get_or-replicate {A = ℕ} (length c.steps) s 0 0 lt;
  undo_misses_are = λ s lt. get_or-replicate {A = ℕ} (length c.steps) s 0 0 lt;
  turn_is = refl;
  aborted_is = refl;
}
