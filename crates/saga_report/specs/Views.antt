-- The data of a saga that a report stores.
use Rattle.std.specs.Prelude.{slice_index_or}
use Rattle.saga_case.specs.declared.states.StepState.TheVariants.{Waiting}
use Rattle.saga_report.specs.declared.sagas.Saga.{Saga}
use Rattle.saga_report.specs.Sagas.{is_in}
use Rattle.saga_report.specs.Lines.{Story}

abbrev pub story_in : Saga → Story
story_in saga = record {
  opened = saga.opened;
  turn = saga.turn;
  aborted = saga.aborted;
  goal = is_in saga.goal;
  state = λ s. slice_index_or saga.states.items s Waiting;
  plans = saga.plans;
  cost = saga.cost;
}
