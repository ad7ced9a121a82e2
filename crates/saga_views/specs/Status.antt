-- The summary of a book.
use Rattle.std.specs.Prelude.{◌≡◌, ℕ, ◌-◌, List, [], ◌∷◌, codes, decimal, length, map}
use Rattle.std.specs.List.{concat, count_by}
use Rattle.saga_def.specs.Contents.{Contents}
use Rattle.saga_history.specs.declared.tasks.Phase.{Phase}
use Rattle.saga_history.specs.declared.tasks.Phase.TheVariants.{Ended, Stuck}
use Rattle.saga_core.specs.Book.{Book, sagas_in}
use Rattle.saga_rows.specs.Limits.{max_rows}
use Rattle.saga_views.specs.Phases.{ArePhases, same_phase}
use Rattle.saga_views.specs.Words.{listed}

-- the number of sagas in a phase
abbrev pub count_in : Phase → List Phase → ℕ
count_in phase phases = count_by (same_phase phase) phases

abbrev pub quoted : List ℕ → List ℕ
quoted name = concat (codes "\"" ∷ name ∷ codes "\"" ∷ [])

-- the list of the names of definitions
abbrev pub names_text : List Contents → List ℕ
names_text shelf = listed (codes ",") (map (λ (d : Contents). quoted d.name) shelf)

-- the numbers of ended and of stuck sagas, of events and of opened sagas, and the number of sagas that may still be
-- opened
abbrev pub status_text : Book → ℕ → ℕ → List ℕ
status_text book ended stuck =
    concat (codes "{\"definitions\":[" ∷ names_text book.shelf ∷ codes "],\"ended\":" ∷ decimal ended ∷ codes ",\"events\":"
    ∷ decimal (length book.history) ∷ codes ",\"opened\":" ∷ decimal (sagas_in book.history) ∷ codes ",\"room\":"
    ∷ decimal (max_rows - sagas_in book.history) ∷ codes ",\"stuck\":" ∷ decimal stuck ∷ codes "}\n" ∷ [])

-- the text is the summary, for the phase of each saga
pub record TellsStatus (book : Book) (text : List ℕ) : Type 0 where
  pub phases : List Phase
  pub phases_are : ArePhases book phases
  pub text_is : text ≡ status_text book (count_in Ended phases) (count_in Stuck phases)
