-- The event that starts a task, the transition for an outcome, and the words of phases.
use Rattle.std.specs.Prelude.{◌≡◌, ℕ, ◌+◌, nat_lt, if◌then◌else◌, List, codes}
use Rattle.saga_def.specs.Contents.{Contents}
use Rattle.saga_case.specs.declared.states.StepState.{StepState}
use Rattle.saga_case.specs.declared.states.StepState.TheVariants.{Running, Undoing}
use Rattle.saga_history.specs.declared.events.Event.{Event}
use Rattle.saga_history.specs.declared.events.Event.TheVariants as event
use Rattle.saga_history.specs.declared.tasks.Kind.{Kind}
use Rattle.saga_history.specs.declared.tasks.Kind.TheVariants as kind
use Rattle.saga_history.specs.declared.tasks.Phase.{Phase}
use Rattle.saga_history.specs.declared.tasks.Phase.TheVariants as phase
use Rattle.saga_history.specs.declared.tasks.Task.{Task}
use Rattle.saga_history.specs.declared.tasks.Task.TheVariants as task
use Rattle.saga_history.specs.declared.tasks.Outcome.{Outcome}
use Rattle.saga_history.specs.declared.tasks.Outcome.TheVariants.{Done, Void, Failed}
use Rattle.saga_history.specs.declared.transitions.Transition.{Transition}
use Rattle.saga_history.specs.declared.transitions.Transition.TheVariants as transition
use Rattle.saga_history.specs.Changes.{Change}
use Rattle.saga_history.specs.Rules.{IsAllowed, misses_of, tries, undo_misses_of, undo_tries}

-- the event that starts a task
abbrev pub event_of_task : Task → Event
event_of_task (task.Run i s) = event.StartRun i s
event_of_task (task.Undo i s) = event.StartUndo i s
event_of_task (task.Plan i) = event.StartPlan i

-- a task is allowed if this event is allowed
abbrev pub TaskIsAllowed : List Contents → List Event → Task → Type 0
TaskIsAllowed shelf h t = IsAllowed shelf h (event_of_task t)

-- the state of a step whose action, or compensation, is in progress
abbrev pub busy_state : Kind → StepState
busy_state kind.Run = Running
busy_state kind.Undo = Undoing

-- the number of misses of that action or compensation, and the number of its tries
abbrev pub missed : Kind → List Change → ℕ → ℕ
missed kind.Run l s = misses_of l s
missed kind.Undo l s = undo_misses_of l s

abbrev pub tries_of : Kind → Contents → ℕ → ℕ
tries_of kind.Run d s = tries d s
tries_of kind.Undo d s = undo_tries d s

-- the transition by which an action, or a compensation, ends with an outcome, after this number of misses and with this
-- number of tries
abbrev pub end_of : Kind → Outcome → ℕ → ℕ → Transition
end_of kind.Run Done misses tries = transition.Commit
end_of kind.Run Void misses tries = transition.Void
end_of kind.Run Failed misses tries = if nat_lt (misses + 1) tries then transition.Missed else transition.Fail
end_of kind.Undo Done misses tries = transition.Undone
end_of kind.Undo Void misses tries = transition.Undone
end_of kind.Undo Failed misses tries = if nat_lt (misses + 1) tries then transition.UndoMissed else transition.UndoFail

-- the transition is the end with this outcome, for some numbers of misses and tries
abbrev pub IsEndOf : Kind → Outcome → Transition → Type 0
IsEndOf kind outcome t = (misses : ℕ) × (tries : ℕ) × (t ≡ end_of kind outcome misses tries)

abbrev pub phase_word : Phase → List ℕ
phase_word phase.Going = codes "going"
phase_word phase.Draining = codes "draining"
phase_word phase.Planning = codes "planning"
phase_word phase.Ended = codes "ended"
phase_word phase.Stuck = codes "stuck"
