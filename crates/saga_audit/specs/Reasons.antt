-- Why a change is not allowed: the first reason that applies.
use Rattle.std.specs.Prelude.{◌≡◌, ℕ, nat_lt, List, length, Option, Some, None, if◌then◌else◌}
use Rattle.saga_def.specs.Contents.{Contents}
use Rattle.saga_history.specs.declared.transitions.Transition.{Transition}
use Rattle.saga_history.specs.declared.transitions.Transition.TheVariants as transition
use Rattle.saga_history.specs.declared.turns.Turn.{Turn}
use Rattle.saga_history.specs.declared.turns.Turn.TheVariants.{Planning}
use Rattle.saga_history.specs.Changes.{Change, opens, moves, starts_plan, drops_plan, adopts, aborts}
use Rattle.saga_history.specs.Turns.{turn}
use Rattle.saga_history.specs.Rules.{definition, IsAllowedChange}
use Rattle.saga_audit.specs.declared.reasons.Reason.{Reason}
use Rattle.saga_audit.specs.declared.reasons.Reason.TheVariants as reason

-- the index on the shelf of the definition with which a change opens a saga
abbrev pub opened_by : Change → Option ℕ
opened_by (opens k) = Some k
opened_by _ = None

-- the reason if the saga was not opened
abbrev pub reason_unopened : Change → Reason
reason_unopened (opens k) = reason.NoSuchDefinition
reason_unopened _ = reason.NoSuchSaga

-- the reason for a transition that starts an action or a compensation, or ends one
abbrev pub reason_of_transition : Transition → Reason
reason_of_transition transition.StartRun = reason.NotNow
reason_of_transition transition.StartUndo = reason.NotNow
reason_of_transition _ = reason.NotTaken

abbrev pub reason_of_step : Contents → ℕ → Transition → Reason
reason_of_step d s t = if nat_lt s (length d.steps) then reason_of_transition t else reason.NoSuchStep

abbrev pub reason_of_adoption : Turn → Reason
reason_of_adoption Planning = reason.NotRight
reason_of_adoption _ = reason.NotPlanning

-- the reason for a saga with that definition and that turn
abbrev pub reason_opened : Contents → Turn → Change → Reason
reason_opened d turn (opens k) = reason.DoubleOpen
reason_opened d turn (moves s t) = reason_of_step d s t
reason_opened d turn starts_plan = reason.NotNow
reason_opened d turn drops_plan = reason.NotPlanning
reason_opened d turn (adopts a) = reason_of_adoption turn
reason_opened d turn aborts = reason.NotNow

abbrev pub reason_by : Option Contents → Turn → Change → Reason
reason_by None turn c = reason_unopened c
reason_by (Some d) turn c = reason_opened d turn c

-- the first reason that applies to a change that is not allowed after the changes of its saga
abbrev pub reason_of : List Contents → List Change → Change → Reason
reason_of shelf l c = reason_by (definition shelf l) (turn l) c

-- a change is not allowed, for this reason
pub record IsRefused (shelf : List Contents) (l : List Change) (c : Change) (why : Reason) : Type 0 where
  pub denied : IsAllowedChange shelf l c → ⊥
  pub first : why ≡ reason_of shelf l c
