-- Attempts: which attempt of a step is running, and whether a report refers to it.
use Rattle.std.specs.Prelude.{◌≡◌, ◌≢◌, ℕ, ◌<◌, ◌+◌, List, Option, Some, None, length}
use Rattle.saga_def.specs.Contents.{Contents}
use Rattle.saga_case.specs.declared.states.StepState.TheVariants.{Running, Undoing}
use Rattle.saga_history.specs.declared.tasks.Kind.{Kind}
use Rattle.saga_history.specs.Changes.{Change}
use Rattle.saga_history.specs.States.{state}
use Rattle.saga_history.specs.Tasks.{busy_state, missed}
use Rattle.saga_drive.specs.declared.attempts.Attempt.{Attempt}

-- the report names this attempt, or none
abbrev pub IsMeant : Option Attempt → Kind → ℕ → Type 0
IsMeant None kind number = Unit {0}
IsMeant (Some attempt) kind number = (attempt.task ≡ kind) × (attempt.number ≡ number)

-- the number of the running attempt of an action or a compensation
abbrev pub number_of : Kind → List Change → ℕ → ℕ
number_of kind l s = missed kind l s + 1

-- the action or compensation of the step is running, and the report refers to this attempt
pub record IsMeantAttempt (meant : Option Attempt) (kind : Kind) (d : Contents) (l : List Change) (s : ℕ) : Type 0 where
  pub is_step : s < length d.steps
  pub busy : state l s ≡ busy_state kind
  pub is_meant : IsMeant meant kind (number_of kind l s)

-- the action or compensation of the step is running, and the report names another attempt
pub record IsOtherAttempt (meant : Option Attempt) (d : Contents) (l : List Change) (s : ℕ) : Type 0 where
  pub is_step : s < length d.steps
  pub kind : Kind
  pub busy : state l s ≡ busy_state kind
  pub other : IsMeant meant kind (number_of kind l s) → ⊥

-- neither the action nor the compensation is running
abbrev pub IsNotTaken : Contents → List Change → ℕ → Type 0
IsNotTaken d l s = (s < length d.steps) × (state l s ≢ Running) × (state l s ≢ Undoing)
