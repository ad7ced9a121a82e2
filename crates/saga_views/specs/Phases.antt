-- The phases of the sagas of a book, in the order in which the sagas were opened.
use Rattle.std.specs.Prelude.{◌≡◌, ℕ, ◌<◌, Bool, true, false, List, length, slice_index_or}
use Rattle.saga_history.specs.declared.tasks.Phase.{Phase}
use Rattle.saga_history.specs.declared.tasks.Phase.TheVariants.{Going, Draining, Planning, Ended, Stuck}
use Rattle.saga_core.specs.Book.{Book, number, sagas_in}
use Rattle.saga_core.specs.Tasks.{StandsAt}

-- the phase of each of the first sagas
pub record AreFirstPhases (book : Book) (count : ℕ) (phases : List Phase) : Type 0 where
  pub sized : length phases ≡ count
  pub each : (k : ℕ) (p : Phase) → k < count → StandsAt book (number book.first book.stride k) (slice_index_or phases k p)

-- the phase of each saga
abbrev pub ArePhases : Book → List Phase → Type 0
ArePhases book phases = AreFirstPhases book (sagas_in book.history) phases

-- whether two phases are equal
abbrev pub same_phase : Phase → Phase → Bool
same_phase Going Going = true
same_phase Going _ = false
same_phase Draining Draining = true
same_phase Draining _ = false
same_phase Planning Planning = true
same_phase Planning _ = false
same_phase Ended Ended = true
same_phase Ended _ = false
same_phase Stuck Stuck = true
same_phase Stuck _ = false
