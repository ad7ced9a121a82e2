-- While a saga is planned it is drained; while it goes, its goal suits its states.
use Rattle.std.proofs.Common.{Ok, Err, IsTrue, IfOk, Result, ◌↔◌, Some, ◌+◌, ◌++◌, map, ◌≡◌, ◌≢◌, ℕ, ◌<◌, Bool, true, false, List, [], ◌∷◌, length, eqb, refl, sym, ap, ◌∙◌, subst, inl, inr, arith, get_or}
use Rattle.std.specs.Prelude.{if◌then◌else◌}
use Rattle.std.proofs.lemmas.Bool.{cases_Bool, eqb-true}
use Rattle.std.proofs.lemmas.Option.{slice_get-get_or}
use Rattle.std.specs.List.{range_with_len}
use Rattle.std.proofs.lemmas.List.FromFn.{get_or-map-range_with_len, length-map-range_with_len, map-range_with_len_more}
use Rattle.saga_def.specs.declared.steps.Price.{Price}
use Rattle.saga_def.specs.declared.steps.Price.TheVariants.{Of, Never}
use Rattle.saga_def.specs.declared.steps.Step.{Step}
use Rattle.saga_def.specs.Contents.{Contents}
use Rattle.saga_def.specs.Order.{Steps, member}
use Rattle.saga_case.specs.declared.answers.Answer.{Answer}
use Rattle.saga_case.specs.declared.answers.Answer.TheVariants as answer
use Rattle.saga_case.specs.declared.states.StepState.{StepState}
use Rattle.saga_case.specs.declared.states.StepState.TheVariants.{Waiting, Running, Void, Failed, Undoing, Undone, Fixed}
use Rattle.saga_case.specs.States.{IsBusy}
use Rattle.saga_case.specs.Prices.{stand_of, leave_of}
use Rattle.saga_case.specs.Situation.{AreDrained}
use Rattle.saga_case.specs.Terms.{Terms, terms_of, price_by, price_in, cost_of}
use Rattle.saga_case.specs.Right.{IsRight}
use Rattle.saga_case.proofs.SumLemmas.{prices_never}
use Rattle.saga_history.specs.declared.transitions.Transition.{Transition}
use Rattle.saga_history.specs.declared.transitions.Transition.TheVariants as transition
use Rattle.saga_history.specs.declared.events.Event.{Event}
use Rattle.saga_history.specs.Changes.{changes, Change, opens, moves, starts_plan, drops_plan, adopts, aborts}
use Rattle.saga_history.specs.States.{state_before, state_after, unvoided, state, is_busy, states}
use Rattle.saga_history.specs.Turns.{turn, turn_of_answer, turn_after_transition, turn_after_abort, aborted, present_case, goal}
use Rattle.saga_history.specs.declared.turns.Turn.{Turn}
use Rattle.saga_history.specs.declared.turns.Turn.TheVariants.{Going, Planning}
use Rattle.saga_history.specs.Rules.{SagaMay, definition, IsLegal, StepMay}
use Rattle.saga_history.proofs.VoidLemmas.{is_busy-unvoided}
use Rattle.saga_history.proofs.SagaLemmas.{saga_is_legal, legal_under, IsLegalUnder}

-- no step is busy, step by step
abbrev pub NoStepIsBusy : Contents → List Change → Type 0
NoStepIsBusy d l = (s : ℕ) → s < length d.steps → is_busy (state l s) ≡ false

none_busy_state : (x : StepState) → (IsBusy x → ⊥) → is_busy x ≡ false
none_busy_state Running q = absurd (q tt)
none_busy_state Undoing q = absurd (q tt)
none_busy_state _ q = refl

state_none_busy : (x : StepState) → is_busy x ≡ false → IsBusy x → ⊥
state_none_busy Running q b = cc
state_none_busy Undoing q b = cc
state_none_busy _ q b = b

-- the state of a step in the present case
pub state_at : (d : Contents) (l : List Change) (s : ℕ) (x : StepState) → s < length d.steps → get_or (states d l) s x ≡ state l s
state_at d l s x lt = get_or-map-range_with_len (state l) 0 (length d.steps) s s x lt (omega arith)

pub states_count : (d : Contents) (l : List Change) → length (states d l) ≡ length d.steps
states_count d l = length-map-range_with_len (state l) 0 (length d.steps)

pub none_busy_from : (d : Contents) (l : List Change) → AreDrained (states d l) → NoStepIsBusy d l
none_busy_from d l drained = λ s lt. none_busy_state (state l s) (λ busy. drained s Waiting (omega (arith, states_count d l, lt)) (subst IsBusy (sym (state_at d l s Waiting lt)) busy))

pub drained_from : (d : Contents) (l : List Change) → NoStepIsBusy d l → AreDrained (states d l)
drained_from d l none_busy = λ s x lt busy.
    let below : s < length d.steps = omega (arith, states_count d l, lt) in
    state_none_busy (state l s) (none_busy s below) (subst IsBusy (state_at d l s x below) busy)

-- no step makes a transition while its saga is planned
pub no_move : (d : Contents) (l : List Change) (s : ℕ) (t : Transition) → StepMay d l s t → turn l ≡ Planning → NoStepIsBusy d l → ⊥
no_move d l s transition.StartRun may now none_busy = let bad : Planning ≡ Going = sym now ∙ may.condition.0 in cc
no_move d l s transition.StartUndo may now none_busy = let bad : Planning ≡ Going = sym now ∙ may.condition.0 in cc
no_move d l s _ may now none_busy = let b = none_busy s may.is_step in let c : is_busy (state l s) ≡ true = sym (is_busy-unvoided (state l s)) ∙ ap is_busy may.begins in cc

was_planning : (t : Transition) (turn : Turn) → turn_after_transition t turn ≡ Planning → turn ≡ Planning
was_planning transition.Fail turn e = cc
was_planning transition.UndoFail turn e = cc
was_planning _ turn e = e

abort_planning : (turn : Turn) → turn_after_abort turn ≡ Planning → turn ≡ Planning
abort_planning Planning e = refl
abort_planning _ e = cc

answer_not_planning : (a : Answer) → turn_of_answer a ≡ Planning → ⊥
answer_not_planning (answer.Plan plan) e = cc
answer_not_planning (answer.Blocked chain) e = cc

-- while it is planned, no step is busy
pub none_busy : (d : Contents) (l : List Change) → IsLegalUnder d l → turn l ≡ Planning → NoStepIsBusy d l
none_busy d [] legal now = cc
none_busy d (opens k ∷ l) legal now = let bad : Going ≡ Planning = rw legal at now in cc
none_busy d (moves s t ∷ l) legal now =
    let was = was_planning t (turn l) now in
    absurd (no_move d l s t legal.0 was (none_busy d l legal.1 was))
none_busy d (starts_plan ∷ l) legal now = none_busy_from d l legal.0.1
none_busy d (drops_plan ∷ l) legal now = cc
none_busy d (adopts a ∷ l) legal now = absurd (answer_not_planning a now)
none_busy d (aborts ∷ l) legal now = none_busy d l legal.1 (abort_planning (turn l) now)

-- ---- prices of the present case

pub any_step : Step
any_step = record { name = []; run = Never; undo = Never; skip = Never; keep = Never; tries = 0; undo_tries = 0 }

abbrev pub step_at : Contents → ℕ → Step
step_at d s = get_or d.steps s any_step

pub price_at : (price : StepState → Step → Price) (d : Contents) (l : List Change) (s : ℕ) → s < length d.steps → price_by price (present_case d l) s ≡ price (state l s) (step_at d s)
price_at price d l s lt = rw (slice_get-get_or d.steps s any_step lt, state_at d l s Waiting lt) refl

-- no price of an allowed set is never
pub priced : (t : Terms) (set : Steps) (s : ℕ) → s < t.count → cost_of t set ≢ Never → price_in t set s ≢ Never
priced t set s lt cost never = cost (prices_never t.count s (price_in t set) lt never)

pub stand_failed : (ab : Bool) (step : Step) → stand_of ab Failed step ≡ Never
stand_failed true step = refl
stand_failed false step = refl

pub stand_undone : (ab : Bool) (step : Step) → stand_of ab Undone step ≡ Never
stand_undone true step = refl
stand_undone false step = refl

-- ---- where a step of the goal may be, and where another one
abbrev pub suits : Bool → StepState → Bool
suits true Failed = false
suits true Undoing = false
suits true Undone = false
suits false Running = false
suits false Fixed = false
suits _ _ = true

suits_unvoided : (b : Bool) (x : StepState) → suits b x ≡ true → suits b (unvoided x) ≡ true
suits_unvoided true Void s = refl
suits_unvoided false Void s = refl
suits_unvoided b _ s = s

suits_move : (b : Bool) (z : StepState) (t : Transition) (turn : Turn) → z ≡ state_before t → (t ≡ transition.StartRun → b ≡ true) → (t ≡ transition.StartUndo → b ≡ false) → turn_after_transition t turn ≡ Going → suits b z ≡ true → suits b (state_after t) ≡ true
suits_move b z transition.StartRun turn f starting undoing going was = rw (starting refl) refl
suits_move b z transition.Fail turn f starting undoing going was = cc
suits_move b z transition.StartUndo turn f starting undoing going was = rw (undoing refl) refl
suits_move b z transition.UndoFail turn f starting undoing going was = cc
suits_move true z transition.Undone turn f starting undoing going was = let w : suits true Undoing ≡ true = rw f at was in cc
suits_move true z _ turn f starting undoing going was = refl
suits_move false z _ turn f starting undoing going was = refl

-- a saga that goes on after a transition was going before
pub going_on : (t : Transition) (turn : Turn) → turn_after_transition t turn ≡ Going → turn ≡ Going
going_on transition.Fail turn e = cc
going_on transition.UndoFail turn e = cc
going_on _ turn e = e

pub starts_in_goal : (d : Contents) (l : List Change) (s : ℕ) (t : Transition) → StepMay d l s t → t ≡ transition.StartRun → goal l s ≡ true
starts_in_goal d l s t may is = let f : StepMay d l s transition.StartRun = subst (StepMay d l s) is may in f.condition.1

pub undo_off_goal : (d : Contents) (l : List Change) (s : ℕ) (t : Transition) → StepMay d l s t → t ≡ transition.StartUndo → goal l s ≡ false
undo_off_goal d l s t may is = let f : StepMay d l s transition.StartUndo = subst (StepMay d l s) is may in f.condition.1

abbrev pub GoalSuits : Contents → List Change → Type 0
GoalSuits d l = turn l ≡ Going → (s : ℕ) → s < length d.steps → suits (goal l s) (state l s) ≡ true

stand_suits : (ab : Bool) (x : StepState) (step : Step) → is_busy x ≡ false → stand_of ab x step ≢ Never → suits true x ≡ true
stand_suits ab Running step q p = cc
stand_suits ab Failed step q p = absurd (p (stand_failed ab step))
stand_suits ab Undoing step q p = cc
stand_suits ab Undone step q p = absurd (p (stand_undone ab step))
stand_suits ab _ step q p = refl

leave_suits : (x : StepState) (step : Step) → is_busy x ≡ false → leave_of x step ≢ Never → suits false x ≡ true
leave_suits Running step q p = cc
leave_suits Undoing step q p = cc
leave_suits Fixed step q p = absurd (p refl)
leave_suits _ step q p = refl

not_never : (c : ℕ) → Of c ≡ Never → ⊥
not_never c e = cc

-- the price of a step by whether a right plan keeps it
pub plan_prices : (t : Terms) (set : Steps) (c s : ℕ) (b : Bool) → s < t.count → cost_of t set ≡ Of c → set s ≡ b → (if b then t.stand s else t.leave s) ≢ Never
plan_prices t set c s b lt cost is never = priced t set s lt (λ e. not_never c (sym cost ∙ e)) (ap (λ (v : Bool). if v then t.stand s else t.leave s) is ∙ never)

suits_kept : (d : Contents) (l : List Change) (set : Steps) (c : ℕ) → cost_of (terms_of (present_case d l)) set ≡ Of c → NoStepIsBusy d l → (s : ℕ) → s < length d.steps → (b : Bool) → set s ≡ b → suits b (state l s) ≡ true
suits_kept d l set c cost quiet s lt true is =
    stand_suits (aborted l) (state l s) (step_at d s) (quiet s lt) (λ e. plan_prices (terms_of (present_case d l)) set c s true lt cost is (price_at (stand_of (aborted l)) d l s lt ∙ e))
suits_kept d l set c cost quiet s lt false is =
    leave_suits (state l s) (step_at d s) (quiet s lt) (λ e. plan_prices (terms_of (present_case d l)) set c s false lt cost is (price_at leave_of d l s lt ∙ e))

suits_adopts : (d : Contents) (l : List Change) (a : Answer) → NoStepIsBusy d l → IsRight (terms_of (present_case d l)) a → GoalSuits d (adopts a ∷ l)
suits_adopts d l (answer.Plan plan) quiet right = λ going s lt. suits_kept d l (member plan.kept) plan.cost right.priced quiet s lt (member plan.kept s) refl
suits_adopts d l (answer.Blocked chain) quiet right = λ going. cc

suits_moves : (d : Contents) (l : List Change) (r : ℕ) (t : Transition) → StepMay d l r t → GoalSuits d l → GoalSuits d (moves r t ∷ l)
suits_moves d l r t may was = λ going s lt.
    let before = going_on t (turn l) going in
    elim (cases_Bool (eqb s r)) [
      | inl own ↦
          let at : s ≡ r = eqb-true s r own in
          rw own (suits_move (goal l s) (unvoided (state l s)) t (turn l) (ap (λ v. unvoided (state l v)) at ∙ may.begins) (λ is. ap (goal l) at ∙ starts_in_goal d l r t may is) (λ is. ap (goal l) at ∙ undo_off_goal d l r t may is) going (suits_unvoided (goal l s) (state l s) (was before s lt)))
      | inr other ↦ rw other (was before s lt)
    ]

abort_not_going : (turn : Turn) → turn_after_abort turn ≡ Going → ⊥
abort_not_going Going e = cc
abort_not_going _ e = cc

-- while it goes, each step is where its goal lets it be
pub goal_suits : (d : Contents) (l : List Change) → IsLegalUnder d l → GoalSuits d l
goal_suits d [] legal = λ going s lt. refl
goal_suits d (opens k ∷ l) legal = rw legal (λ going s lt. refl)
goal_suits d (moves r t ∷ l) legal = suits_moves d l r t legal.0 (goal_suits d l legal.1)
goal_suits d (starts_plan ∷ l) legal = λ going. cc
goal_suits d (drops_plan ∷ l) legal = λ going. cc
goal_suits d (adopts a ∷ l) legal = suits_adopts d l a (none_busy d l legal.1 legal.0.0) legal.0.1
goal_suits d (aborts ∷ l) legal = λ going. absurd (abort_not_going (turn l) going)

-- the states of one step more
pub states_more : (l : List Change) (n : ℕ) → map (state l) (range_with_len 0 (n + 1)) ≡ map (state l) (range_with_len 0 n) ++ state l n ∷ []
states_more l n = map-range_with_len_more (state l) 0 n n (omega arith)

-- in a legal history a saga that is planned is drained
pub drained_for_planning : (shelf : List Contents) (d : Contents) (i : ℕ) (h : List Event) → IsLegal shelf h → definition shelf (changes i h) ≡ Some d → turn (changes i h) ≡ Planning → AreDrained (states d (changes i h))
drained_for_planning shelf d i h legal is planning = drained_from d (changes i h) (none_busy d (changes i h) (legal_under shelf d (changes i h) (saga_is_legal shelf i h legal) is) planning)

-- where a saga is planned, a right answer may be adopted
pub planned_right : {E : Type 0} (d : Contents) (l : List Change) (a : Answer) (r : Result Bool E) → turn l ≡ Planning → IfOk r (λ right. IsTrue right ↔ IsRight (terms_of (present_case d l)) a) → IfOk r (λ may. IsTrue may ↔ SagaMay d l (adopts a))
planned_right d l a (Ok b) now right = (λ t. (now, right.0 t), λ may. right.1 may.1)
planned_right d l a (Err e) now right = tt
