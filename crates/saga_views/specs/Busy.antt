-- The tasks that were started and not yet reported.
use Rattle.std.specs.Prelude.{ℕ, List, [], ◌∷◌, Option, Some, None, codes, flat_map, length}
use Rattle.std.specs.List.{concat, range_with_len}
use Rattle.saga_def.specs.Contents.{Contents}
use Rattle.saga_case.specs.declared.states.StepState.{StepState}
use Rattle.saga_case.specs.declared.states.StepState.TheVariants.{Waiting, Running, Committed, Void, Failed, Undoing, Undone, Fixed}
use Rattle.saga_history.specs.declared.tasks.Kind.TheVariants.{Run, Undo}
use Rattle.saga_history.specs.Changes.{Change}
use Rattle.saga_history.specs.States.{state}
use Rattle.saga_core.specs.Book.{Book, changes_in, definition_in, number, sagas_in}
use Rattle.saga_core.specs.Saga.{Saga}
use Rattle.saga_views.specs.Tasks.{saga_of, taken_text}
use Rattle.saga_views.specs.Words.{listed}

-- the task of a step in that state
abbrev pub busy_in : StepState → Saga → ℕ → List (List ℕ)
busy_in Waiting saga s = []
busy_in Running saga s = taken_text Run saga s ∷ []
busy_in Committed saga s = []
busy_in Void saga s = []
busy_in Failed saga s = []
busy_in Undoing saga s = taken_text Undo saga s ∷ []
busy_in Undone saga s = []
busy_in Fixed saga s = []

-- the tasks of the first steps of a saga
abbrev pub busy_below : Saga → ℕ → List (List ℕ)
busy_below saga count = flat_map (λ s. busy_in (state saga.changes s) saga s) (range_with_len 0 count)

abbrev pub busy_by : Option Contents → List Change → ℕ → List (List ℕ)
busy_by None l i = []
busy_by (Some d) l i = busy_below (saga_of i d l) (length d.steps)

-- the tasks of a saga of a book
abbrev pub busy_of : Book → ℕ → List (List ℕ)
busy_of book i = busy_by (definition_in book i) (changes_in book i) i

-- the tasks of the first sagas of a book
abbrev pub busy_up_to : Book → ℕ → List (List ℕ)
busy_up_to book count = flat_map (λ k. busy_of book (number book.first book.stride k)) (range_with_len 0 count)

abbrev pub busy_text : Book → List ℕ
busy_text book =
    concat (codes "{\"busy\":[" ∷ listed (codes ",") (busy_up_to book (sagas_in book.history)) ∷ codes "]}\n" ∷ [])
