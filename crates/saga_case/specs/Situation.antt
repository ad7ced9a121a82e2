-- The contents of a case.
use Rattle.std.specs.Prelude.{ℕ, Bool, List, length, slice_index_or, All, ◌≡◌, ◌<◌}
use Rattle.saga_def.specs.Contents.{Contents}
use Rattle.saga_def.specs.Sound.{IsSound}
use Rattle.saga_case.specs.declared.states.StepState.{StepState}
use Rattle.saga_case.specs.declared.states.StepState.TheVariants.{Waiting}
use Rattle.saga_case.specs.States.{IsBusy}

-- a definition, the states of its steps in order, and whether the saga was aborted
pub record Situation : Type 0 where
  pub definition : Contents
  pub states : List StepState
  pub aborted : Bool

abbrev pub situation : Contents → List StepState → Bool → Situation
situation definition states aborted = record { definition = definition; states = states; aborted = aborted }

-- no step is busy
abbrev pub AreDrained : List StepState → Type 0
AreDrained states = All (λ (s : StepState). ¬ IsBusy s) states

-- the first busy step has this number
pub record IsFirstBusy (states : List StepState) (step : ℕ) : Type 0 where
  pub within : step < length states
  pub busy : IsBusy (slice_index_or states step Waiting)
  pub first : (k : ℕ) → k < step → ¬ IsBusy (slice_index_or states k Waiting)

-- one state for each step, none of which is busy
pub record HasStates (definition : Contents) (states : List StepState) : Type 0 where
  pub paired : length states ≡ length definition.steps
  pub drained : AreDrained states

-- the properties of each case
pub record IsAtRest (c : Situation) : Type 0 where
  pub sound : IsSound c.definition
  pub states : HasStates c.definition c.states
