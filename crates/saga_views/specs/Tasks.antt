-- The texts of tasks.
use Rattle.std.specs.Prelude.{ℕ, ◌+◌, List, [], ◌∷◌, Option, Some, None, codes, decimal, slice_get}
use Rattle.std.specs.List.{concat}
use Rattle.saga_def.specs.Contents.{Contents}
use Rattle.saga_def.specs.declared.steps.Step.{Step}
use Rattle.saga_history.specs.declared.tasks.Kind.{Kind}
use Rattle.saga_history.specs.Changes.{Change}
use Rattle.saga_history.specs.Tasks.{missed}
use Rattle.saga_core.specs.Saga.{Saga}
use Rattle.saga_views.specs.Words.{kind_word}

-- the saga with this number, this definition and these changes
abbrev pub saga_of : ℕ → Contents → List Change → Saga
saga_of i d l = record { number = i; definition = d; changes = l }

abbrev pub name_in : Option Step → List ℕ
name_in None = []
name_in (Some step) = step.name

-- an attempt of an action or a compensation: the number of the attempt, the name of the step, the numbers of the saga
-- and the step, and the word for the kind of task
abbrev pub task_text : ℕ → List ℕ → ℕ → ℕ → List ℕ → List ℕ
task_text attempt name i s task =
    concat (codes "{\"attempt\":" ∷ decimal attempt ∷ codes ",\"name\":\"" ∷ name ∷ codes "\",\"saga\":" ∷ decimal i ∷ codes ",\"step\":" ∷ decimal s
    ∷ codes ",\"task\":\"" ∷ task ∷ codes "\"}" ∷ [])

-- the action or the compensation of a step, as a started task; its attempt has the number of missed attempts plus one
abbrev pub taken_text : Kind → Saga → ℕ → List ℕ
taken_text kind saga s =
    task_text (missed kind saga.changes s + 1) (name_in (slice_get saga.definition.steps s)) saga.number s (kind_word kind)
