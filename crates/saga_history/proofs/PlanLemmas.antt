-- A compensation that fails for good does not by itself make a saga stuck.
use Rattle.std.proofs.Common.{◌&&◌, not, ◌≡◌, ◌≢◌, ℕ, zero, suc, ◌<◌, Bool, true, false, ◌||◌, List, [], ◌∷◌, length, eqb, refl, sym, ap, ◌∙◌, ◌⊎◌, inl, inr, arith}
use Rattle.std.specs.Prelude.{if◌then◌else◌}
use Rattle.std.proofs.lemmas.Bool.{cases_Bool, eqb-true}
use Rattle.saga_def.specs.declared.steps.Price.{Price}
use Rattle.saga_def.specs.declared.steps.Price.TheVariants.{Of, Never}
use Rattle.saga_def.specs.declared.steps.Step.{Step}
use Rattle.saga_def.specs.Contents.{Contents}
use Rattle.saga_def.specs.Order.{Steps, IsClosed, member}
use Rattle.saga_case.specs.declared.answers.Answer.{Answer}
use Rattle.saga_case.specs.declared.answers.Answer.TheVariants as answer
use Rattle.saga_case.specs.declared.answers.Plan.{Plan}
use Rattle.saga_case.specs.declared.states.StepState.{StepState}
use Rattle.saga_case.specs.declared.states.StepState.TheVariants.{Waiting, Running, Committed, Void, Failed, Undoing, Undone, Fixed}
use Rattle.saga_case.specs.Prices.{plus, stand_of, leave_of, free_skip}
use Rattle.saga_case.specs.Terms.{terms_of, prices_below, price_in}
use Rattle.saga_case.specs.Right.{IsRight, IsRightPlan}
use Rattle.saga_case.proofs.ClosedLemmas.{closed_direct, closed_from_direct}
use Rattle.saga_history.specs.declared.events.Event.{Event}
use Rattle.saga_history.specs.declared.transitions.Transition.{Transition}
use Rattle.saga_history.specs.declared.transitions.Transition.TheVariants as transition
use Rattle.saga_history.specs.Changes.{Change, opens, moves, starts_plan, drops_plan, adopts, aborts, changes}
use Rattle.saga_history.specs.States.{same_transition, state_before, state_after, unvoided, state, is_busy, is_standing}
use Rattle.saga_history.specs.Turns.{aborted, present_case, goal}
use Rattle.saga_history.specs.Rules.{StepMay, IsLegal}
use Rattle.saga_history.specs.Plans.{is_plan, plan_in_force, NoKeepIsNever, SomeSetIsAllowed, PlansLeaveAWay}
use Rattle.saga_history.proofs.HeadlineLemmas.{goal_closed}
use Rattle.saga_history.proofs.SagaLemmas.{saga_is_legal, IsLegalUnder, legal_under}
use Rattle.saga_history.proofs.NeedLemmas.{pairs}
use Rattle.saga_history.proofs.OrderLemmas.{active_stands, stands_active}
use Rattle.saga_history.proofs.TurnLemmas.{NoStepIsBusy, none_busy, none_busy_from, any_step, step_at, price_at, plan_prices, stand_failed, stand_undone, starts_in_goal, undo_off_goal}

-- where a step that the plan kept may be, and where another one, and which of its prices are numbers
abbrev IsPriced : Bool → Step → Bool → StepState → Type 0
IsPriced ab step true Waiting = (ab ≡ false) × (step.run ≢ Never)
IsPriced ab step true Running = (ab ≡ false) × (step.run ≢ Never)
IsPriced ab step true Committed = Unit {0}
IsPriced ab step true Void = Unit {0}
IsPriced ab step true Failed = ⊥
IsPriced ab step true Undoing = ⊥
IsPriced ab step true Undone = ⊥
IsPriced ab step true Fixed = Unit {0}
IsPriced ab step false Running = ⊥
IsPriced ab step false Fixed = Unit {0}
IsPriced ab step false _ = step.skip ≢ Never

priced_unvoided : (ab : Bool) (step : Step) (b : Bool) (x : StepState) → IsPriced ab step b x → IsPriced ab step b (unvoided x)
priced_unvoided ab step true Void was = was
priced_unvoided ab step false Void was = was
priced_unvoided ab step b _ was = was

priced_move : (ab : Bool) (step : Step) (b : Bool) (z : StepState) (m : Transition) → z ≡ state_before m → (m ≡ transition.StartRun → b ≡ true) → (m ≡ transition.StartUndo → b ≡ false) → (m ≡ transition.Fail → ⊥) → IsPriced ab step b z → IsPriced ab step b (state_after m)
priced_move ab step true z transition.StartRun f starting undo fail was = let w : IsPriced ab step true Waiting = rw f at was in w
priced_move ab step false z transition.StartRun f starting undo fail was = let e = starting refl in cc
priced_move ab step false z transition.Commit f starting undo fail was = let w : IsPriced ab step false Running = rw f at was in absurd w
priced_move ab step false z transition.Void f starting undo fail was = let w : IsPriced ab step false Running = rw f at was in absurd w
priced_move ab step true z transition.Missed f starting undo fail was = let w : IsPriced ab step true Running = rw f at was in w
priced_move ab step false z transition.Missed f starting undo fail was = let w : IsPriced ab step false Running = rw f at was in absurd w
priced_move ab step b z transition.Fail f starting undo fail was = absurd (fail refl)
priced_move ab step true z transition.StartUndo f starting undo fail was = let e = undo refl in cc
priced_move ab step false z transition.StartUndo f starting undo fail was = let w : IsPriced ab step false Committed = rw f at was in w
priced_move ab step true z transition.Undone f starting undo fail was = let w : IsPriced ab step true Undoing = rw f at was in absurd w
priced_move ab step false z transition.Undone f starting undo fail was = let w : IsPriced ab step false Undoing = rw f at was in w
priced_move ab step false z transition.UndoMissed f starting undo fail was = let w : IsPriced ab step false Undoing = rw f at was in w
priced_move ab step _ z _ f starting undo fail was = tt

plus_left : (p q : Price) → plus p q ≢ Never → p ≢ Never
plus_left (Of a) q some e = cc
plus_left Never q some e = some refl

plus_right : (p q : Price) → plus p q ≢ Never → q ≢ Never
plus_right (Of a) (Of b) some e = cc
plus_right (Of a) Never some e = some refl
plus_right Never q some e = some refl

plus_both : (p q : Price) → p ≢ Never → q ≢ Never → plus p q ≢ Never
plus_both (Of a) (Of b) p q e = cc
plus_both (Of a) Never p q e = q refl
plus_both Never q p r e = p refl

skip_number : (p : Price) → free_skip p ≢ Never → p ≢ Never
skip_number (Of a) some e = cc
skip_number Never some e = some refl

waits_stand : (ab : Bool) (step : Step) → stand_of ab Waiting step ≢ Never → (ab ≡ false) × (step.run ≢ Never)
waits_stand true step some = absurd (some refl)
waits_stand false step some = (refl, plus_left step.run step.keep some)

priced_stand : (ab : Bool) (x : StepState) (step : Step) → is_busy x ≡ false → stand_of ab x step ≢ Never → IsPriced ab step true x
priced_stand ab Waiting step q p = waits_stand ab step p
priced_stand ab Running step q p = cc
priced_stand ab Committed step q p = tt
priced_stand ab Void step q p = tt
priced_stand ab Failed step q p = absurd (p (stand_failed ab step))
priced_stand ab Undoing step q p = cc
priced_stand ab Undone step q p = absurd (p (stand_undone ab step))
priced_stand ab Fixed step q p = tt

priced_leave : (ab : Bool) (x : StepState) (step : Step) → is_busy x ≡ false → leave_of x step ≢ Never → IsPriced ab step false x
priced_leave ab Running step q p = cc
priced_leave ab Committed step q p = plus_right step.undo step.skip p
priced_leave ab Void step q p = skip_number step.skip p
priced_leave ab Undoing step q p = cc
priced_leave ab Fixed step q p = tt
priced_leave ab _ step q p = p

-- a step is where a plan in force lets it be
abbrev IsForced : Contents → List Change → Type 0
IsForced d l = (s : ℕ) → s < length d.steps → IsPriced (aborted l) (step_at d s) (goal l s) (state l s)

no_failure : (t : Transition) (b : Bool) → (not (same_transition transition.Fail t) && b) ≡ true → (b ≡ true) × (t ≡ transition.Fail → ⊥)
no_failure transition.Fail b e = cc
no_failure _ b e = (e, λ is. cc)

forced_move : (d : Contents) (l : List Change) (r : ℕ) (t : Transition) → StepMay d l r t → (t ≡ transition.Fail → ⊥) → IsForced d l → IsForced d (moves r t ∷ l)
forced_move d l r t may quiet forced = λ s lt. elim (cases_Bool (eqb s r)) [
  | inl own ↦
      let at : s ≡ r = eqb-true s r own in
      rw own (priced_move (aborted l) (step_at d s) (goal l s) (unvoided (state l s)) t (ap (λ v. unvoided (state l v)) at ∙ may.begins)
      (λ is. ap (goal l) at ∙ starts_in_goal d l r t may is)
      (λ is. ap (goal l) at ∙ undo_off_goal d l r t may is)
      quiet (priced_unvoided (aborted l) (step_at d s) (goal l s) (state l s) (forced s lt)))
  | inr other ↦ rw other (forced s lt)
]

priced_at : (d : Contents) (l : List Change) (plan : Plan) → NoStepIsBusy d l → IsRightPlan (terms_of (present_case d l)) plan → (s : ℕ) → s < length d.steps → (b : Bool) → member plan.kept s ≡ b → IsPriced (aborted l) (step_at d s) b (state l s)
priced_at d l plan quiet right s lt true is =
    priced_stand (aborted l) (state l s) (step_at d s) (quiet s lt) (λ e. plan_prices (terms_of (present_case d l)) (member plan.kept) plan.cost s true lt right.priced is (price_at (stand_of (aborted l)) d l s lt ∙ e))
priced_at d l plan quiet right s lt false is =
    priced_leave (aborted l) (state l s) (step_at d s) (quiet s lt) (λ e. plan_prices (terms_of (present_case d l)) (member plan.kept) plan.cost s false lt right.priced is (price_at leave_of d l s lt ∙ e))

forced_adopts : (d : Contents) (l : List Change) (a : Answer) → NoStepIsBusy d l → IsRight (terms_of (present_case d l)) a → is_plan a ≡ true → IsForced d (adopts a ∷ l)
forced_adopts d l (answer.Plan plan) quiet right is = λ s lt. priced_at d l plan quiet right s lt (member plan.kept s) refl
forced_adopts d l (answer.Blocked chain) quiet right is = cc

is_forced : (d : Contents) (l : List Change) → IsLegalUnder d l → plan_in_force l ≡ true → IsForced d l
is_forced d [] legal is = cc
is_forced d (opens k ∷ l) legal is = let none : plan_in_force [] ≡ true = rw legal at is in cc
is_forced d (moves r t ∷ l) legal is =
    let still = no_failure t (plan_in_force l) is in
    forced_move d l r t legal.0 still.1 (is_forced d l legal.1 still.0)
is_forced d (starts_plan ∷ l) legal is = is_forced d l legal.1 is
is_forced d (drops_plan ∷ l) legal is = is_forced d l legal.1 is
is_forced d (adopts a ∷ l) legal is = forced_adopts d l a (none_busy d l legal.1 legal.0.0) legal.0.1 is
is_forced d (aborts ∷ l) legal is = cc

-- ---- the steps that the plan kept, and those that stand
abbrev standing_too : List Change → Steps
standing_too l s = goal l s || is_standing (state l s)

in_or : (a b : Bool) → (a || b) ≡ true → (a ≡ true) ⊎ (b ≡ true)
in_or true b e = inl refl
in_or false b e = inr e

or_left : (a b : Bool) → a ≡ true → (a || b) ≡ true
or_left a b e = rw e refl

or_right : (a b : Bool) → b ≡ true → (a || b) ≡ true
or_right true b e = refl
or_right false b e = e

closed_too : (d : Contents) (l : List Change) → IsLegalUnder d l → IsClosed d.needs (standing_too l)
closed_too d l legal = closed_from_direct d.needs (standing_too l) (λ b a here need. elim (in_or (goal l b) (is_standing (state l b)) here) [
  | inl held ↦ or_left (goal l a) (is_standing (state l a)) (closed_direct d.needs (goal l) (goal_closed d l legal) b a held need)
  | inr up ↦ or_right (goal l a) (is_standing (state l a)) (active_stands (state l b) (state l a) (stands_active (state l b) up) (pairs d l legal b a need))
])

stand_committed : (ab : Bool) (step : Step) → stand_of ab Committed step ≡ step.keep
stand_committed true step = refl
stand_committed false step = refl

-- a void step has a number for its price
stand_void : (ab : Bool) (step : Step) → stand_of ab Void step ≢ Never
stand_void true step e = cc
stand_void false step e = cc

stand_fixed : (ab : Bool) (step : Step) → stand_of ab Fixed step ≡ step.keep
stand_fixed true step = refl
stand_fixed false step = refl

stand_waiting : (ab : Bool) (step : Step) → ab ≡ false → stand_of ab Waiting step ≡ plus step.run step.keep
stand_waiting ab step e = rw e refl

-- the price that such a step then has
price_of : (ab : Bool) (step : Step) (b : Bool) (x : StepState) → is_busy x ≡ false → step.keep ≢ Never → IsPriced ab step b x → (if b || is_standing x then stand_of ab x step else leave_of x step) ≢ Never
price_of ab step true Waiting q keep f = λ e. plus_both step.run step.keep f.1 keep (sym (stand_waiting ab step f.0) ∙ e)
price_of ab step true Running q keep f = cc
price_of ab step true Committed q keep f = λ e. keep (sym (stand_committed ab step) ∙ e)
price_of ab step true Void q keep f = stand_void ab step
price_of ab step true Fixed q keep f = λ e. keep (sym (stand_fixed ab step) ∙ e)
price_of ab step false Waiting q keep f = f
price_of ab step false Committed q keep f = λ e. keep (sym (stand_committed ab step) ∙ e)
price_of ab step false Void q keep f = stand_void ab step
price_of ab step false Failed q keep f = f
price_of ab step false Undoing q keep f = cc
price_of ab step false Undone q keep f = f
price_of ab step false Fixed q keep f = λ e. keep (sym (stand_fixed ab step) ∙ e)
price_of ab step _ _ q keep f = absurd f

sum_number : (n : ℕ) (price : ℕ → Price) → ((s : ℕ) → s < n → price s ≢ Never) → prices_below n price ≢ Never
unfolding prices_below
sum_number zero price each e = cc
sum_number (suc n) price each e = plus_both (prices_below n price) (price n) (sum_number n price (λ s lt. each s (omega arith))) (each n (omega arith)) e

some_set : (d : Contents) (l : List Change) → IsLegalUnder d l → NoKeepIsNever d → plan_in_force l ≡ true → NoStepIsBusy d l → SomeSetIsAllowed d l
some_set d l legal keep is quiet = (
  standing_too l,
  record {
    closed = closed_too d l legal;
    priced = sum_number (length d.steps) (price_in (terms_of (present_case d l)) (standing_too l)) (λ s lt.
        rw (price_at (stand_of (aborted l)) d l s lt, price_at leave_of d l s lt)
        (price_of (aborted l) (step_at d s) (goal l s) (state l s) (quiet s lt) (keep s any_step lt) (is_forced d l legal is s lt)));
  },
)

pub plans_leave_a_way : (shelf : List Contents) (h : List Event) → IsLegal shelf h → PlansLeaveAWay shelf h
plans_leave_a_way shelf h legal = λ i d is keep force may.
    let l = changes i h in
    some_set d l (legal_under shelf d l (saga_is_legal shelf i h legal) is) keep force (none_busy_from d l may.1)
