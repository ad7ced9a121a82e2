-- The result for the sagas of a group, and the result of an audit of all.
use Rattle.std.specs.Prelude.{◌≡◌, ℕ, ◌&&◌, ◌==◌, ◌%◌, Bool, true, false, List, length, count_by, take, slice_get, Option, Some, None}
use Rattle.std.specs.List.{list_all, range_with_len}
use Rattle.saga_def.specs.Contents.{Contents}
use Rattle.saga_history.specs.declared.events.Event.{Event}
use Rattle.saga_history.specs.declared.turns.Turn.{Turn}
use Rattle.saga_history.specs.declared.turns.Turn.TheVariants.{Stuck}
use Rattle.saga_history.specs.Changes.{Change, saga_of, change_of, past, changes}
use Rattle.saga_history.specs.Turns.{turn, is_going}
use Rattle.saga_history.specs.Rules.{definition, IsLegal, IsLegalSaga}
use Rattle.saga_history.specs.Follower.{done_at}
use Rattle.saga_history.specs.Headline.{Headline}
use Rattle.saga_history.specs.Merges.{opened_sagas}
use Rattle.saga_audit.specs.declared.reasons.Reason.{Reason}
use Rattle.saga_audit.specs.declared.answers.AuditAnswer.{AuditAnswer}
use Rattle.saga_audit.specs.declared.answers.AuditAnswer.TheVariants.{Yes, No}
use Rattle.saga_audit.specs.declared.answers.Tally.{Tally}
use Rattle.saga_audit.specs.declared.answers.Finding.{Finding}
use Rattle.saga_audit.specs.declared.answers.Finding.TheVariants.{Legal, Refused}
use Rattle.saga_audit.specs.Reasons.{IsRefused}

-- the saga is going, each step of the goal is in effect, and each other step is waiting, failed or
-- undone
abbrev pub is_ended_by : Option Contents → List Change → Bool
is_ended_by None l = false
is_ended_by (Some d) l = is_going (turn l) && list_all (done_at l) (range_with_len 0 (length d.steps))

abbrev pub is_ended : List Contents → List Change → Bool
is_ended shelf l = is_ended_by (definition shelf l) l

abbrev pub is_stuck_turn : Turn → Bool
is_stuck_turn Stuck = true
is_stuck_turn _ = false

abbrev pub is_stuck : List Change → Bool
is_stuck l = is_stuck_turn (turn l)

-- a saga of a history is ended, or stuck
abbrev pub ends : List Contents → List Event → ℕ → Bool
ends shelf events i = is_ended shelf (changes i (past events))

abbrev pub sticks : List Event → ℕ → Bool
sticks events i = is_stuck (changes i (past events))

-- ---- all sagas

-- the history is legal; it opens this many sagas, this many of them are ended and stuck, and it has
-- this many events
pub record IsLegalWith (shelf : List Contents) (events : List Event) (sagas ended stuck count : ℕ) : Type 0 where
  pub legal : IsLegal shelf (past events)
  pub headline : Headline shelf (past events)
  pub sagas_are : sagas ≡ length (opened_sagas events)
  pub ended_are : ended ≡ count_by (ends shelf events) (opened_sagas events)
  pub stuck_are : stuck ≡ count_by (sticks events) (opened_sagas events)
  pub events_are : count ≡ length events

-- the first event that is not allowed has that index, and that reason is the first that applies
pub record IsFirstRefused (shelf : List Contents) (events : List Event) (place : ℕ) (why : Reason) : Type 0 where
  pub event : Event
  pub here : slice_get events place ≡ Some event
  pub before : IsLegal shelf (past (take place events))
  pub refused : IsRefused shelf (changes (saga_of event) (past (take place events))) (change_of event) why

abbrev pub Audits : List Contents → List Event → AuditAnswer → Type 0
Audits shelf events (Yes sagas ended stuck count) = IsLegalWith shelf events sagas ended stuck count
Audits shelf events (No place why) = IsFirstRefused shelf events place why

abbrev pub is_yes : AuditAnswer → Bool
is_yes (Yes sagas ended stuck count) = true
is_yes (No place why) = false

-- ---- the sagas of a group, which is defined by a test on their numbers

-- each saga of the group is legal
abbrev pub IsLegalIn : List Contents → (ℕ → Bool) → List Event → Type 0
IsLegalIn shelf mine h = (i : ℕ) → mine i ≡ true → IsLegalSaga shelf (changes i h)

-- the number of sagas of a group that a history opens and that pass a test
abbrev pub count_in : (ℕ → Bool) → (ℕ → Bool) → List Event → ℕ
count_in mine test events = count_by (λ i. mine i && test i) (opened_sagas events)

pub record IsTallied (shelf : List Contents) (mine : ℕ → Bool) (events : List Event) (tally : Tally) : Type 0 where
  pub legal : IsLegalIn shelf mine (past events)
  pub sagas_are : tally.sagas ≡ count_in mine (λ i. true) events
  pub ended_are : tally.ended ≡ count_in mine (ends shelf events) events
  pub stuck_are : tally.stuck ≡ count_in mine (sticks events) events

pub record IsFirstIn (shelf : List Contents) (mine : ℕ → Bool) (events : List Event) (place : ℕ) (why : Reason) : Type 0 where
  pub event : Event
  pub here : slice_get events place ≡ Some event
  pub ours : mine (saga_of event) ≡ true
  pub before : IsLegalIn shelf mine (past (take place events))
  pub refused : IsRefused shelf (changes (saga_of event) (past (take place events))) (change_of event) why

abbrev pub Finds : List Contents → (ℕ → Bool) → List Event → Finding → Type 0
Finds shelf mine events (Legal tally) = IsTallied shelf mine events tally
Finds shelf mine events (Refused place why) = IsFirstIn shelf mine events place why

-- the sagas whose numbers have a remainder
abbrev pub is_in : ℕ → ℕ → ℕ → Bool
is_in workers group i = i % workers == group

-- only one saga; all sagas
abbrev pub is_saga : ℕ → ℕ → Bool
is_saga saga i = saga == i

abbrev pub everything : ℕ → Bool
everything i = true
