-- The contents of a book.
use Rattle.std.specs.Prelude.{◌≡◌, ℕ, ◌<◌, ◌≤◌, ◌+◌, ◌*◌, ◌++◌, ◌∷◌, [], All, List, None, Option, Some, length}
use Rattle.std.specs.List.{count_by, sum_by}
use Rattle.saga_def.specs.Contents.{Contents}
use Rattle.saga_def.specs.Sound.{IsSound}
use Rattle.saga_history.specs.declared.events.Event.{Event}
use Rattle.saga_history.specs.declared.turns.Turn.{Turn}
use Rattle.saga_history.specs.declared.turns.Turn.TheVariants.{Going, Draining, Planning, Stuck}
use Rattle.saga_history.specs.Changes.{Change, past, changes}
use Rattle.saga_history.specs.Headline.{Headline}
use Rattle.saga_history.specs.Merges.{opened_sagas, IsNumbered}
use Rattle.saga_history.specs.Rules.{definition, IsAllowed, IsLegal}
use Rattle.saga_history.specs.States.{is_busy}
use Rattle.saga_history.specs.Turns.{opened_with}
use Rattle.saga_rows.specs.Follows.{Follows}
use Rattle.saga_rows.specs.Row.{Row}
use Rattle.saga_rows.specs.Rows.{row_at}
use Rattle.saga_rows.specs.Limits.{max_rows}
use Rattle.saga_core.specs.Journal.{Journal}

-- the list of definitions, the first number and the stride of the sagas, and the history in order
pub record Book : Type 0 where
  pub shelf : List Contents
  pub first : ℕ
  pub stride : ℕ
  pub history : List Event

-- the book with a journal
abbrev pub book_of : List Contents → ℕ → ℕ → Journal → Book
book_of shelf first stride journal = record { shelf = shelf; first = first; stride = stride; history = journal.history }

-- the book after one more event
abbrev pub with_event : Book → Event → Book
with_event b e = record b { history = b.history ++ e ∷ [] }

-- the history is legal; the main theorem (`Headline`) holds for it
abbrev pub IsLegalBook : Book → Type 0
IsLegalBook b = IsLegal b.shelf (past b.history)

abbrev pub HeadlineOf : Book → Type 0
HeadlineOf b = Headline b.shelf (past b.history)

-- the event may happen next
abbrev pub Allows : Book → Event → Type 0
Allows b e = IsAllowed b.shelf (past b.history) e

-- the changes of a saga, latest first, and its definition if it was opened
abbrev pub changes_in : Book → ℕ → List Change
changes_in b i = changes i (past b.history)

abbrev pub definition_in : Book → ℕ → Option Contents
definition_in b i = definition b.shelf (changes_in b i)

-- the number of the saga at an index, in the order of opening, from 0
abbrev pub number : ℕ → ℕ → ℕ → ℕ
number first stride k = first + k * stride

-- the number of sagas that a history opens
abbrev pub sagas_in : List Event → ℕ
sagas_in h = length (opened_sagas h)

-- the number of ending events that a row still needs: one for each busy step, and one for a plan in
-- progress
abbrev pub busy_in : Row → ℕ
busy_in row = count_by is_busy row.states

abbrev pub plans_in_turn : Turn → ℕ
plans_in_turn Going = 0
plans_in_turn Draining = 0
plans_in_turn Planning = 1
plans_in_turn Stuck = 0

abbrev pub plans_in : Row → ℕ
plans_in row = plans_in_turn row.turn

-- the invariant of a book: its history is legal, each row follows the changes of its saga, and
-- there is memory for each event that must follow
pub record IsBook (shelf : List Contents) (first stride : ℕ) (rows : List Row) (journal : Journal) : Type 0 where
  pub sound : All IsSound shelf
  pub legal : IsLegal shelf (past journal.history)
  pub follow : (k : ℕ) → k < length rows → Follows shelf (row_at rows k) (changes (number first stride k) (past journal.history))
  pub others : (i : ℕ) → ((k : ℕ) → k < length rows → i ≡ number first stride k → ⊥)
      → opened_with (changes i (past journal.history)) ≡ None
  pub counted : sagas_in journal.history ≡ length rows
  pub numbered : IsNumbered first stride journal.history
  pub room : sum_by busy_in rows ≤ journal.owed
  pub room_for_plans : sum_by plans_in rows ≤ journal.plans
  pub few : length rows ≤ max_rows
  pub begins : first < stride
  pub near : stride ≤ 16
