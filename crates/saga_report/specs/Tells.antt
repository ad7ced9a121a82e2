-- The stored state of a saga agrees with its changes, last first.
use Rattle.std.specs.Prelude.{◌≡◌, ℕ, List, [], Option, Some, length, slice_get, slice_index_or, nat_eq, MatchOption}
use Rattle.std.specs.HashMap.{HashMap, get}
use Rattle.saga_history.specs.declared.events.Event.{Event}
use Rattle.saga_case.specs.declared.states.StepState.TheVariants.{Waiting}
use Rattle.saga_history.specs.Changes.{Change, changes, past}
use Rattle.saga_history.specs.States.{state}
use Rattle.saga_history.specs.Turns.{turn, goal, aborted, opened_with}
use Rattle.saga_report.specs.declared.sagas.Saga.{Saga}
use Rattle.saga_report.specs.Sagas.{cost_of, is_in, plans_of}

pub record Tells (saga : Saga) (l : List Change) : Type 0 where
  pub opened : saga.opened ≡ opened_with l
  pub turn_is : saga.turn ≡ turn l
  pub aborted_is : saga.aborted ≡ aborted l
  pub goal_is : (s : ℕ) → is_in saga.goal s ≡ goal l s
  pub states_are : (s : ℕ) → slice_index_or saga.states.items s Waiting ≡ state l s
  pub plans_are : saga.plans ≡ plans_of l
  pub cost_is : saga.cost ≡ cost_of l

-- the stored state of a saga agrees, or nothing is stored and the saga has no changes
abbrev pub IsKept : Option Saga → List Change → Type 0
IsKept kept l = MatchOption kept (l ≡ []) (λ saga. Tells saga l)

-- the same for each saga of a history
abbrev pub Follows : {S : Type 0} → HashMap ℕ Saga S → List Event → Type 0
Follows sagas events = (i : ℕ) → IsKept (get nat_eq sagas i) (changes i (past events))

-- the same for each saga of each history
pub record AreFollowed {S : Type 0} (books : List (HashMap ℕ Saga S)) (histories : List (List Event)) : Type 0 where
  pub sized : length books ≡ length histories
  pub each : (place : ℕ) (book : HashMap ℕ Saga S) → slice_get books place ≡ Some book → Follows book (slice_index_or histories place [])
