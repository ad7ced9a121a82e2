-- Cases in which all costs are 0.
use Rattle.std.specs.Prelude.{false, All, ◌≡◌, ◌≢◌}
use Rattle.saga_def.specs.declared.steps.Price.TheVariants.{Of}
use Rattle.saga_def.specs.declared.steps.Step.{Step}
use Rattle.saga_def.specs.Order.{Steps}
use Rattle.saga_case.specs.declared.states.StepState.{StepState}
use Rattle.saga_case.specs.declared.states.StepState.TheVariants.{Fixed}
use Rattle.saga_case.specs.Situation.{Situation}

-- the empty set
abbrev pub none : Steps
none s = false

-- the four costs of a step are 0
pub record CostsNothing (step : Step) : Type 0 where
  pub run : step.run ≡ Of 0
  pub undo : step.undo ≡ Of 0
  pub skip : step.skip ≡ Of 0
  pub keep : step.keep ≡ Of 0

-- each cost is 0, and no compensation failed permanently
pub record IsFree (c : Situation) : Type 0 where
  pub prices : All CostsNothing c.definition.steps
  pub undoable : All (λ (s : StepState). s ≢ Fixed) c.states
