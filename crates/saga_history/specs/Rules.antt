-- Which events are allowed, and which histories are legal.
use Rattle.std.specs.Prelude.{◌≡◌, ◌≢◌, ℕ, ◌<◌, ◌+◌, true, false, List, [], ◌∷◌, Option, Some, None, IsSomeAnd, IsTrue, length, slice_get}
use Rattle.saga_def.specs.declared.steps.Step.{Step}
use Rattle.saga_def.specs.Contents.{Contents}
use Rattle.saga_def.specs.Order.{NeedsDirectly}
use Rattle.saga_case.specs.Situation.{AreDrained}
use Rattle.saga_case.specs.Terms.{terms_of}
use Rattle.saga_case.specs.Right.{IsRight}
use Rattle.saga_history.specs.declared.events.Event.{Event}
use Rattle.saga_history.specs.declared.tasks.Phase.{Phase}
use Rattle.saga_history.specs.declared.tasks.Phase.TheVariants as phase
use Rattle.saga_history.specs.declared.transitions.Transition.{Transition}
use Rattle.saga_history.specs.declared.transitions.Transition.TheVariants as transition
use Rattle.saga_history.specs.declared.turns.Turn.TheVariants.{Going, Draining, Planning, Stuck}
use Rattle.saga_history.specs.Changes.{Change, opens, moves, starts_plan, drops_plan, adopts, aborts, saga_of, change_of, changes}
use Rattle.saga_history.specs.States.{state_before, unvoided, state, states, times, is_standing, is_off}
use Rattle.saga_history.specs.Turns.{turn, goal, aborted, opened_with, present_case}

-- the number of tries of a step and of its compensation; 0 if there is no such step
abbrev pub tries_in : Option Step → ℕ
tries_in None = 0
tries_in (Some step) = step.tries

abbrev pub undo_tries_in : Option Step → ℕ
undo_tries_in None = 0
undo_tries_in (Some step) = step.undo_tries

abbrev pub tries : Contents → ℕ → ℕ
tries d s = tries_in (slice_get d.steps s)

abbrev pub undo_tries : Contents → ℕ → ℕ
undo_tries d s = undo_tries_in (slice_get d.steps s)

-- the number of misses of a step and of its compensation
abbrev pub misses_of : List Change → ℕ → ℕ
misses_of l s = times transition.Missed l s

abbrev pub undo_misses_of : List Change → ℕ → ℕ
undo_misses_of l s = times transition.UndoMissed l s

-- all steps that the step needs are in effect
abbrev pub NeedsStand : Contents → List Change → ℕ → Type 0
NeedsStand d l s = (a : ℕ) → NeedsDirectly d.needs s a → IsTrue (is_standing (state l a))

-- each step that needs it directly is waiting, failed or undone
abbrev pub DependantsAreOff : Contents → List Change → ℕ → Type 0
DependantsAreOff d l s = (b : ℕ) → NeedsDirectly d.needs b s → IsTrue (is_off (state l b))

-- the condition of a transition in addition to the state in which it starts
abbrev pub MeetsCondition : Contents → List Change → ℕ → Transition → Type 0
MeetsCondition d l s transition.StartRun = (turn l ≡ Going) × IsTrue (goal l s) × NeedsStand d l s
MeetsCondition d l s transition.Commit = Unit {0}
MeetsCondition d l s transition.Void = Unit {0}
MeetsCondition d l s transition.Missed = misses_of l s + 1 < tries d s
MeetsCondition d l s transition.Fail = misses_of l s + 1 ≡ tries d s
MeetsCondition d l s transition.StartUndo = (turn l ≡ Going) × (goal l s ≡ false) × DependantsAreOff d l s
MeetsCondition d l s transition.Undone = Unit {0}
MeetsCondition d l s transition.UndoMissed = undo_misses_of l s + 1 < undo_tries d s
MeetsCondition d l s transition.UndoFail = undo_misses_of l s + 1 ≡ undo_tries d s

-- a step may make a transition
pub record StepMay (d : Contents) (l : List Change) (s : ℕ) (t : Transition) : Type 0 where
  pub is_step : s < length d.steps
  pub begins : unvoided (state l s) ≡ state_before t
  pub condition : MeetsCondition d l s t

-- a saga is ended: it is going, each step of the goal is in effect, and each other step is waiting, failed or undone
pub record IsEnded (d : Contents) (l : List Change) : Type 0 where
  pub going : turn l ≡ Going
  pub stand : (s : ℕ) → s < length d.steps → goal l s ≡ true → IsTrue (is_standing (state l s))
  pub off : (s : ℕ) → s < length d.steps → goal l s ≡ false → IsTrue (is_off (state l s))

-- the phase of a saga
abbrev pub HasPhase : Contents → List Change → Phase → Type 0
HasPhase d l phase.Going = (turn l ≡ Going) × (IsEnded d l → ⊥)
HasPhase d l phase.Draining = turn l ≡ Draining
HasPhase d l phase.Planning = turn l ≡ Planning
HasPhase d l phase.Ended = IsEnded d l
HasPhase d l phase.Stuck = turn l ≡ Stuck

-- the changes that are allowed next in an opened saga with this definition
abbrev pub SagaMay : Contents → List Change → Change → Type 0
SagaMay d l (opens k) = ⊥
SagaMay d l (moves s t) = StepMay d l s t
SagaMay d l starts_plan = (turn l ≡ Draining) × AreDrained (states d l)
SagaMay d l drops_plan = turn l ≡ Planning
SagaMay d l (adopts a) = (turn l ≡ Planning) × IsRight (terms_of (present_case d l)) a
SagaMay d l aborts = (aborted l ≡ false) × (IsEnded d l → ⊥) × (turn l ≢ Stuck)

-- the definition of a saga that was opened with one on the shelf
abbrev pub definition_at : List Contents → Option ℕ → Option Contents
definition_at shelf None = None
definition_at shelf (Some k) = slice_get shelf k

abbrev pub definition : List Contents → List Change → Option Contents
definition shelf l = definition_at shelf (opened_with l)

-- a saga is opened once and with a definition on the shelf; its definition decides about every other change
abbrev pub IsAllowedChange : List Contents → List Change → Change → Type 0
IsAllowedChange shelf l (opens k) = (opened_with l ≡ None) × (k < length shelf)
IsAllowedChange shelf l (moves s t) = IsSomeAnd (definition shelf l) (λ d. SagaMay d l (moves s t))
IsAllowedChange shelf l starts_plan = IsSomeAnd (definition shelf l) (λ d. SagaMay d l starts_plan)
IsAllowedChange shelf l drops_plan = IsSomeAnd (definition shelf l) (λ d. SagaMay d l drops_plan)
IsAllowedChange shelf l (adopts a) = IsSomeAnd (definition shelf l) (λ d. SagaMay d l (adopts a))
IsAllowedChange shelf l aborts = IsSomeAnd (definition shelf l) (λ d. SagaMay d l aborts)

-- an event is allowed if its change is allowed after the changes of its saga
abbrev pub IsAllowed : List Contents → List Event → Event → Type 0
IsAllowed shelf h e = IsAllowedChange shelf (changes (saga_of e) h) (change_of e)

-- the property holds for each event, together with the events before it
abbrev pub EachEvent : (List Event → Event → Type 0) → List Event → Type 0
EachEvent P [] = Unit {0}
EachEvent P (e ∷ h) = P h e × EachEvent P h

-- each event is allowed after the events before it
abbrev pub IsLegal : List Contents → List Event → Type 0
IsLegal shelf h = EachEvent (IsAllowed shelf) h

-- the same for one saga: each change is allowed after the changes before it
abbrev pub IsLegalSaga : List Contents → List Change → Type 0
IsLegalSaga shelf [] = Unit {0}
IsLegalSaga shelf (c ∷ l) = IsAllowedChange shelf l c × IsLegalSaga shelf l
