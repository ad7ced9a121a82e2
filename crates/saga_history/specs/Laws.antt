-- A law of phases, and the parts of the main theorem.
use Rattle.std.specs.Prelude.{◌≡◌, ◌≢◌, ℕ, ◌<◌, true, false, List, Some, length, slice_get, take}
use Rattle.saga_def.specs.Contents.{Contents}
use Rattle.saga_def.specs.Order.{Precedes, Steps, IsClosed}
use Rattle.saga_case.specs.Right.{IsRight, Settles}
use Rattle.saga_case.specs.Terms.{terms_of, IsAllowed}
use Rattle.saga_case.specs.declared.answers.Answer.{Answer}
use Rattle.saga_case.specs.declared.states.StepState.TheVariants.{Failed, Undone}
use Rattle.saga_history.specs.declared.events.Event.{Event}
use Rattle.saga_history.specs.declared.events.Event.TheVariants as event
use Rattle.saga_history.specs.declared.tasks.Phase.{Phase}
use Rattle.saga_history.specs.declared.transitions.Transition.TheVariants as transition
use Rattle.saga_history.specs.Changes.{Change, changes, past}
use Rattle.saga_history.specs.Headline.{before_last, starts_undo_of}
use Rattle.saga_history.specs.Rules.{definition, HasPhase, IsEnded}
use Rattle.saga_history.specs.States.{state, times, times_committed}
use Rattle.saga_history.specs.Turns.{goal, present_case}

-- a saga has at most one phase
abbrev pub HasOnePhase : Contents → List Change → Type 0
HasOnePhase d l = (p q : Phase) → HasPhase d l p → HasPhase d l q → p ≡ q

-- saga i has this definition
abbrev pub Runs : List Contents → List Event → ℕ → Contents → Type 0
Runs shelf h i d = definition shelf (changes i h) ≡ Some d

-- the goal of an ended saga is closed
abbrev pub GoalIsClosed : List Contents → List Event → Type 0
GoalIsClosed shelf h =
    (i : ℕ) (d : Contents) → Runs shelf h i d → IsEnded d (changes i h) → IsClosed d.needs (goal (changes i h))

-- each step of the goal of an ended saga committed once, and was not compensated
abbrev pub GoalIsKept : List Contents → List Event → Type 0
GoalIsKept shelf h =
    (i : ℕ) (d : Contents) → Runs shelf h i d → IsEnded d (changes i h)
    → (s : ℕ) → s < length d.steps → goal (changes i h) s ≡ true
    → (times_committed (changes i h) s ≡ 1) × (times transition.Undone (changes i h) s ≡ 0)

-- each other step of it that committed did so once, and was compensated once
abbrev pub OthersAreUndone : List Contents → List Event → Type 0
OthersAreUndone shelf h =
    (i : ℕ) (d : Contents) → Runs shelf h i d → IsEnded d (changes i h)
    → (s : ℕ) → s < length d.steps → goal (changes i h) s ≡ false → 0 < times_committed (changes i h) s
    → (times_committed (changes i h) s ≡ 1) × (times transition.Undone (changes i h) s ≡ 1)

-- if a step was compensated, each committed step that it precedes was compensated before the last start of its
-- compensation
abbrev pub UndoneInOrder : List Contents → List Event → Type 0
UndoneInOrder shelf h =
    (i : ℕ) (d : Contents) → Runs shelf h i d → (p q : ℕ) → Precedes d.needs p q
    → 0 < times transition.Undone (changes i h) p → 0 < times_committed (changes i h) q
    → 0 < times transition.Undone (before_last (starts_undo_of p) (changes i h)) q

-- an adopted answer is right for the case of its saga before the adoption; no set that was allowed there has a failed
-- or an undone step
abbrev pub AdoptionsSettle : List Contents → List Event → Type 0
AdoptionsSettle shelf events =
    (place i : ℕ) (a : Answer) (d : Contents) → slice_get events place ≡ Some (event.Adopt i a)
    → Runs shelf (past (take place events)) i d
    → let l : List Change = changes i (past (take place events)) in
    IsRight (terms_of (present_case d l)) a × Settles (terms_of (present_case d l)) a
    × ((set : Steps) (s : ℕ) → IsAllowed (terms_of (present_case d l)) set → s < length d.steps → set s ≡ true
    → (state l s ≢ Failed) × (state l s ≢ Undone))
