-- A history by its parts: its sagas, its events, and the histories of a merge.
use Rattle.std.specs.Prelude.{◌≡◌, ◌≢◌, ℕ, ◌<◌, List, [], ◌∷◌, ◌++◌, slice_get, take, ◌==◌, if◌then◌else◌, Some, ◌↔◌}
use Rattle.saga_def.specs.Contents.{Contents}
use Rattle.saga_history.specs.declared.events.Event.{Event}
use Rattle.saga_history.specs.declared.tasks.Phase.{Phase}
use Rattle.saga_history.specs.Changes.{Change, saga_of, change_of, past, changes}
use Rattle.saga_history.specs.Turns.{in_goal}
use Rattle.saga_history.specs.States.{state}
use Rattle.saga_history.specs.Rules.{HasPhase, definition, IsAllowed, IsLegal, IsLegalSaga}
use Rattle.saga_history.specs.Merges.{IsMerge, IsMergeOf, AreDisjoint, AllDisjoint, EachHistory, IsNumbered}

-- the event at an index was allowed after the events before it, and these are a legal history
pub record WasAllowed (shelf : List Contents) (events : List Event) (place : ℕ) (event : Event) : Type 0 where
  pub allowed : IsAllowed shelf (past (take place events)) event
  pub before : IsLegal shelf (past (take place events))

-- the same for the event at each index
abbrev pub EachWasAllowed : List Contents → List Event → Type 0
EachWasAllowed shelf events =
    (place : ℕ) (event : Event) → slice_get events place ≡ Some event → WasAllowed shelf events place event

-- the first event that is not allowed has this index
pub record IsFirstNotAllowed (shelf : List Contents) (events : List Event) (place : ℕ) : Type 0 where
  pub event : Event
  pub here : slice_get events place ≡ Some event
  pub before : IsLegal shelf (past (take place events))
  pub refused : IsAllowed shelf (past (take place events)) event → ⊥

-- at most one index is the first
abbrev pub HasOneFirst : List Contents → List Event → Type 0
HasOneFirst shelf events =
    (p q : ℕ) → IsFirstNotAllowed shelf events p → IsFirstNotAllowed shelf events q → p ≡ q

-- a legal history has no such index
abbrev pub HasNoFirst : List Contents → List Event → Type 0
HasNoFirst shelf events = IsLegal shelf (past events) → (p : ℕ) → IsFirstNotAllowed shelf events p → ⊥

-- a legal history and an event that is allowed after it make a legal history
abbrev pub GrowsByAllowed : List Contents → List Event → Type 0
GrowsByAllowed shelf events =
    (e : Event) → IsLegal shelf (past events) → IsAllowed shelf (past events) e
    → IsLegal shelf (past (events ++ e ∷ []))

-- a history is legal if and only if its part for each saga is legal
abbrev pub IsLegalBySagas : List Contents → List Event → Type 0
IsLegalBySagas shelf events =
    IsLegal shelf (past events) ↔ ((i : ℕ) → IsLegalSaga shelf (changes i (past events)))

-- which events are allowed in a saga depends only on its own changes
abbrev pub DependsOnOwnChanges : List Contents → List Event → List Event → Type 0
DependsOnOwnChanges shelf a b =
    (e : Event) → changes (saga_of e) (past a) ≡ changes (saga_of e) (past b)
    → IsAllowed shelf (past a) e → IsAllowed shelf (past b) e

-- an event at the end of a history adds its change to the changes of its saga, and no change to another saga
abbrev pub AddsOneChange : List Event → Type 0
AddsOneChange events =
    (e : Event) (i : ℕ) → changes i (past (events ++ e ∷ []))
    ≡ (if i == saga_of e then change_of e ∷ changes i (past events) else changes i (past events))

-- a saga has the same states, goal, phase and definition with other changes
pub record StaysAsItWas (shelf : List Contents) (old new : List Change) : Type 0 where
  pub states : (s : ℕ) → state new s ≡ state old s
  pub goal : (s : ℕ) → in_goal new s ≡ in_goal old s
  pub phase : (d : Contents) (p : Phase) → HasPhase d old p → HasPhase d new p
  pub definition : definition shelf new ≡ definition shelf old

-- an event leaves every other saga unchanged
abbrev pub LeavesOtherSagas : List Contents → List Event → Type 0
LeavesOtherSagas shelf events =
    (e : Event) (i : ℕ) → i ≢ saga_of e
    → StaysAsItWas shelf (changes i (past events)) (changes i (past (events ++ e ∷ [])))

-- a merge of two legal histories that have no saga in common is legal
abbrev pub MergesAreLegal : List Contents → List Event → List Event → Type 0
MergesAreLegal shelf a b =
    IsLegal shelf (past a) → IsLegal shelf (past b) → AreDisjoint a b
    → (c : List Event) → IsMerge a b c → IsLegal shelf (past c)

-- a merge of any number of such histories is legal
abbrev pub MergesOfManyAreLegal : List Contents → Type 0
MergesOfManyAreLegal shelf =
    (histories : List (List Event)) (c : List Event) → EachHistory (λ h. IsLegal shelf (past h)) histories
    → AllDisjoint histories → IsMergeOf histories c → IsLegal shelf (past c)

-- two legal histories that number their sagas with the same stride from different first numbers have no saga in common
abbrev pub NumberedApart : List Contents → List Event → List Event → Type 0
NumberedApart shelf a b =
    (first other stride : ℕ) → first < stride → other < stride → first ≢ other
    → IsLegal shelf (past a) → IsLegal shelf (past b) → IsNumbered first stride a → IsNumbered other stride b
    → AreDisjoint a b
