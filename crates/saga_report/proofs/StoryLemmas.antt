-- What is kept of a saga is its story.
use Rattle.std.proofs.Common.{◌≡◌, List, refl}
use mathlib.Core.Path.{fun_ext}
use Rattle.saga_history.specs.Changes.{Change}
use Rattle.saga_report.specs.declared.sagas.Saga.{Saga}
use Rattle.saga_report.specs.Lines.{story_of}
use Rattle.saga_report.specs.Tells.{Tells}
use Rattle.saga_report.specs.Views.{story_in}

pub story_is : (saga : Saga) (l : List Change) → Tells saga l → story_in saga ≡ story_of l
story_is saga l t = rw (t.opened, t.turn_is, t.aborted_is, fun_ext t.goal_is, fun_ext t.states_are, t.plans_are, t.cost_is) refl
