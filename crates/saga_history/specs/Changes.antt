-- The saga of an event, and the change of this saga.
use Rattle.std.specs.Prelude.{ℕ, ◌==◌, List, [], ◌∷◌, reverse, if◌then◌else◌}
use Rattle.saga_case.specs.declared.answers.Answer.{Answer}
use Rattle.saga_history.specs.declared.transitions.Transition.{Transition}
use Rattle.saga_history.specs.declared.transitions.Transition.TheVariants as transition
use Rattle.saga_history.specs.declared.events.Event.{Event}
use Rattle.saga_history.specs.declared.events.Event.TheVariants as event
use Rattle.saga_history.specs.declared.events.Mark.{Mark}
use Rattle.saga_history.specs.declared.events.Mark.TheVariants as mark

-- the change of a saga: it is opened, a step makes a transition, a plan is started, dropped or adopted, or it is
-- aborted
pub data Change : Type 0 where
  opens : (definition : ℕ) → Change
  moves : (step : ℕ) → Transition → Change
  starts_plan : Change
  drops_plan : Change
  adopts : Answer → Change
  aborts : Change

abbrev pub saga_of : Event → ℕ
saga_of (event.Open i k) = i
saga_of (event.StartRun i s) = i
saga_of (event.Commit i s) = i
saga_of (event.Fail i s) = i
saga_of (event.StartUndo i s) = i
saga_of (event.Undone i s) = i
saga_of (event.UndoFail i s) = i
saga_of (event.StartPlan i) = i
saga_of (event.DropPlan i) = i
saga_of (event.Adopt i a) = i
saga_of (event.Missed i s) = i
saga_of (event.UndoMissed i s) = i
saga_of (event.Abort i) = i
saga_of (event.Void i s) = i

abbrev pub change_of : Event → Change
change_of (event.Open i k) = opens k
change_of (event.StartRun i s) = moves s transition.StartRun
change_of (event.Commit i s) = moves s transition.Commit
change_of (event.Fail i s) = moves s transition.Fail
change_of (event.StartUndo i s) = moves s transition.StartUndo
change_of (event.Undone i s) = moves s transition.Undone
change_of (event.UndoFail i s) = moves s transition.UndoFail
change_of (event.StartPlan i) = starts_plan
change_of (event.DropPlan i) = drops_plan
change_of (event.Adopt i a) = adopts a
change_of (event.Missed i s) = moves s transition.Missed
change_of (event.UndoMissed i s) = moves s transition.UndoMissed
change_of (event.Abort i) = aborts
change_of (event.Void i s) = moves s transition.Void

-- the event of this transition of a step
abbrev pub step_event : ℕ → ℕ → Transition → Event
step_event i s transition.StartRun = event.StartRun i s
step_event i s transition.Commit = event.Commit i s
step_event i s transition.Void = event.Void i s
step_event i s transition.Missed = event.Missed i s
step_event i s transition.Fail = event.Fail i s
step_event i s transition.StartUndo = event.StartUndo i s
step_event i s transition.Undone = event.Undone i s
step_event i s transition.UndoMissed = event.UndoMissed i s
step_event i s transition.UndoFail = event.UndoFail i s

-- a history as the rules see it: in reverse order, with the last event first
abbrev pub past : List Event → List Event
past events = reverse events

-- the changes of one saga, last first
abbrev pub changes : ℕ → List Event → List Change
changes i [] = []
changes i (e ∷ h) = if i == saga_of e then change_of e ∷ changes i h else changes i h

-- the mark of an event: the event without the answer of an adoption
abbrev pub mark_of : Event → Mark
mark_of (event.Open i k) = mark.Open i k
mark_of (event.StartRun i s) = mark.StartRun i s
mark_of (event.Commit i s) = mark.Commit i s
mark_of (event.Fail i s) = mark.Fail i s
mark_of (event.StartUndo i s) = mark.StartUndo i s
mark_of (event.Undone i s) = mark.Undone i s
mark_of (event.UndoFail i s) = mark.UndoFail i s
mark_of (event.StartPlan i) = mark.StartPlan i
mark_of (event.DropPlan i) = mark.DropPlan i
mark_of (event.Adopt i a) = mark.Adopt i
mark_of (event.Missed i s) = mark.Missed i s
mark_of (event.UndoMissed i s) = mark.UndoMissed i s
mark_of (event.Abort i) = mark.Abort i
mark_of (event.Void i s) = mark.Void i s
