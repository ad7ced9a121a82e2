-- The number of events of a saga.
use Rattle.std.specs.Prelude.{◌≡◌, ℕ, ◌+◌, ◌*◌, ◌<◌, ◌≤◌, Bool, true, false, ◌||◌, List, Some, length, count_by}
use Rattle.saga_def.specs.Contents.{Contents}
use Rattle.saga_case.specs.Flow.{sum_below}
use Rattle.saga_history.specs.declared.events.Event.{Event}
use Rattle.saga_history.specs.declared.transitions.Transition.{Transition}
use Rattle.saga_history.specs.declared.transitions.Transition.TheVariants as transition
use Rattle.saga_history.specs.Changes.{Change, moves, drops_plan, adopts, changes}
use Rattle.saga_history.specs.States.{transitions, same_transition}
use Rattle.saga_history.specs.Turns.{is_abort}
use Rattle.saga_history.specs.Rules.{tries, undo_tries, definition}

-- an action or a compensation failed, and is not retried
abbrev pub is_final_failure : Transition → Bool
is_final_failure t = same_transition transition.Fail t || same_transition transition.UndoFail t

abbrev pub is_failure : Change → Bool
is_failure (moves s t) = is_final_failure t
is_failure _ = false

abbrev pub is_drop : Change → Bool
is_drop drops_plan = true
is_drop _ = false

abbrev pub is_adoption : Change → Bool
is_adoption (adopts a) = true
is_adoption _ = false

-- two for each try of a step and of its compensation
abbrev pub most_events : Contents → ℕ → ℕ
most_events d s = 2 * (tries d s + undo_tries d s)

-- The number of adoptions is at most that of failures and aborts, and at most one for each of the n steps and one more.
-- Each dropped plan was started. Each step has at most the number of events above. Without dropped plans and their
-- starts, the saga has at most 4 + 2n events and the events of the n steps.
pub record HasFewEvents (d : Contents) (l : List Change) : Type 0 where
  pub adoptions : count_by is_adoption l ≤ count_by is_failure l + count_by is_abort l
  pub plans : count_by is_adoption l ≤ length d.steps + 1
  pub drops : 2 * count_by is_drop l ≤ length l
  pub each_step : (s : ℕ) → s < length d.steps → length (transitions l s) ≤ most_events d s
  pub in_all : length l ≤ 4 + 2 * length d.steps + 2 * count_by is_drop l + sum_below (length d.steps) (most_events d)

-- these bounds hold for each saga of a history
abbrev pub AllHaveFewEvents : List Contents → List Event → Type 0
AllHaveFewEvents shelf h =
    (i : ℕ) (d : Contents) → definition shelf (changes i h) ≡ Some d → HasFewEvents d (changes i h)
