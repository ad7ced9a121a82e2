-- How often a step made each transition, by its state; and the required state of a step that another one needs.
use Rattle.std.specs.Prelude.{◌≡◌, ℕ, ◌+◌, ◌<◌, Bool, true, false, List, Some, length, count_by, if◌then◌else◌}
use Rattle.saga_def.specs.Contents.{Contents}
use Rattle.saga_def.specs.Order.{NeedsDirectly}
use Rattle.saga_case.specs.Situation.{AreDrained}
use Rattle.saga_case.specs.declared.states.StepState.{StepState}
use Rattle.saga_case.specs.declared.states.StepState.TheVariants.{Waiting, Committed, Void, Failed, Undoing, Undone, Fixed}
use Rattle.saga_history.specs.declared.events.Event.{Event}
use Rattle.saga_history.specs.declared.transitions.Transition.{Transition}
use Rattle.saga_history.specs.declared.transitions.Transition.TheVariants as transition
use Rattle.saga_history.specs.declared.turns.Turn.TheVariants.{Planning}
use Rattle.saga_history.specs.Changes.{Change, changes}
use Rattle.saga_history.specs.States.{transitions, state, states, is_standing, same_transition}
use Rattle.saga_history.specs.Turns.{turn}
use Rattle.saga_history.specs.Rules.{tries, undo_tries, misses_of, undo_misses_of, definition}

abbrev pub one : Bool → ℕ
one b = if b then 1 else 0

-- its action has started and was not missed
abbrev pub was_begun : StepState → Bool
was_begun Waiting = false
was_begun _ = true

abbrev pub has_committed : StepState → Bool
has_committed Committed = true
has_committed Void = true
has_committed Undoing = true
has_committed Undone = true
has_committed Fixed = true
has_committed _ = false

abbrev pub has_failed : StepState → Bool
has_failed Failed = true
has_failed _ = false

-- its compensation has started and was not missed
abbrev pub undo_begun : StepState → Bool
undo_begun Undoing = true
undo_begun Undone = true
undo_begun Fixed = true
undo_begun _ = false

abbrev pub has_undone : StepState → Bool
has_undone Undone = true
has_undone _ = false

abbrev pub has_fixed : StepState → Bool
has_fixed Fixed = true
has_fixed _ = false

-- the number of occurrences of a transition in a list
abbrev pub count_of : Transition → List Transition → ℕ
count_of t ts = count_by (same_transition t) ts

-- how often each transition was made, by the state and the number of misses
pub record Tally (ts : List Transition) (x : StepState) : Type 0 where
  pub committed : count_of transition.Commit ts + count_of transition.Void ts ≡ one (has_committed x)
  pub undone : count_of transition.Undone ts ≡ one (has_undone x)
  pub failed : count_of transition.Fail ts ≡ one (has_failed x)
  pub fixed : count_of transition.UndoFail ts ≡ one (has_fixed x)
  pub started : count_of transition.StartRun ts ≡ count_of transition.Missed ts + one (was_begun x)
  pub undo_started : count_of transition.StartUndo ts ≡ count_of transition.UndoMissed ts + one (undo_begun x)
  pub in_all : length ts ≡ count_of transition.StartRun ts + count_of transition.Commit ts + count_of transition.Missed ts
      + count_of transition.Fail ts + count_of transition.StartUndo ts + count_of transition.Undone ts
      + count_of transition.UndoMissed ts + count_of transition.UndoFail ts + count_of transition.Void ts

-- the states that a step may have if a step in the first state needs it directly
abbrev pub SuitsNeed : StepState → StepState → Type 0
SuitsNeed Waiting needed = Unit {0}
SuitsNeed Failed needed = has_committed needed ≡ true
SuitsNeed Undone needed = has_committed needed ≡ true
SuitsNeed _ needed = is_standing needed ≡ true

-- Each step made the transitions that its state implies, was missed less often than it is tried, and the steps that it
-- needs have a required state. While a plan of the saga is in progress, no step is busy.
pub record IsTallied (d : Contents) (l : List Change) : Type 0 where
  pub tally : (s : ℕ) → s < length d.steps → Tally (transitions l s) (state l s)
  pub misses : (s : ℕ) → s < length d.steps → misses_of l s < tries d s
  pub undo_misses : (s : ℕ) → s < length d.steps → undo_misses_of l s < undo_tries d s
  pub needs : (b a : ℕ) → NeedsDirectly d.needs b a → SuitsNeed (state l b) (state l a)
  pub drained : turn l ≡ Planning → AreDrained (states d l)

-- this holds for each saga of a history
abbrev pub AllAreTallied : List Contents → List Event → Type 0
AllAreTallied shelf h =
    (i : ℕ) (d : Contents) → definition shelf (changes i h) ≡ Some d → IsTallied d (changes i h)
