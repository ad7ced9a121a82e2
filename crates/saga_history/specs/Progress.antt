-- The state of a saga in which no task may start.
use Rattle.std.specs.Prelude.{◌≡◌, ℕ, ◌<◌, true, Some, List, length, ◌⊎◌}
use Rattle.saga_def.specs.Contents.{Contents}
use Rattle.saga_history.specs.declared.events.Event.{Event}
use Rattle.saga_history.specs.declared.tasks.Task.{Task}
use Rattle.saga_history.specs.declared.turns.Turn.TheVariants.{Planning, Stuck}
use Rattle.saga_history.specs.Changes.{Change, saga_of, changes}
use Rattle.saga_history.specs.States.{state, is_busy}
use Rattle.saga_history.specs.Turns.{turn}
use Rattle.saga_history.specs.Rules.{IsEnded, definition}
use Rattle.saga_history.specs.Tasks.{event_of_task, TaskIsAllowed}

-- no task of the saga is allowed
abbrev pub HasNoTask : List Contents → List Event → ℕ → Type 0
HasNoTask shelf h i = (t : Task) → saga_of (event_of_task t) ≡ i → TaskIsAllowed shelf h t → ⊥

-- a step is busy
abbrev pub HasBusyStep : Contents → List Change → Type 0
HasBusyStep d l = (s : ℕ) × (s < length d.steps) × (is_busy (state l s) ≡ true)

-- the saga is ended, stuck or planning, or one of its steps is busy
abbrev pub IsEndedOrWaits : Contents → List Change → Type 0
IsEndedOrWaits d l = IsEnded d l ⊎ ((turn l ≡ Stuck) ⊎ ((turn l ≡ Planning) ⊎ HasBusyStep d l))

-- this holds for each saga of a history in which no task is allowed
abbrev pub AllEndedOrWait : List Contents → List Event → Type 0
AllEndedOrWait shelf h =
    (i : ℕ) (d : Contents) → definition shelf (changes i h) ≡ Some d → HasNoTask shelf h i
    → IsEndedOrWaits d (changes i h)
