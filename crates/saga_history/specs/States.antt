-- The states of the steps of a saga, by its changes, last first.
use Rattle.std.specs.Prelude.{ℕ, ◌+◌, Bool, true, false, ◌==◌, List, [], ◌∷◌, map, length, count_by, if◌then◌else◌}
use Rattle.std.specs.List.{range_with_len}
use Rattle.saga_def.specs.Contents.{Contents}
use Rattle.saga_case.specs.declared.states.StepState.{StepState}
use Rattle.saga_case.specs.declared.states.StepState.TheVariants.{Waiting, Running, Committed, Void, Failed, Undoing, Undone, Fixed}
use Rattle.saga_history.specs.declared.transitions.Transition.{Transition}
use Rattle.saga_history.specs.declared.transitions.Transition.TheVariants as transition
use Rattle.saga_history.specs.Changes.{Change, moves}

-- the state in which a transition starts, and the one to which it leads
abbrev pub state_before : Transition → StepState
state_before transition.StartRun = Waiting
state_before transition.StartUndo = Committed
state_before transition.Undone = Undoing
state_before transition.UndoMissed = Undoing
state_before transition.UndoFail = Undoing
state_before _ = Running

abbrev pub state_after : Transition → StepState
state_after transition.StartRun = Running
state_after transition.Commit = Committed
state_after transition.Void = Void
state_after transition.Missed = Waiting
state_after transition.Fail = Failed
state_after transition.StartUndo = Undoing
state_after transition.Undone = Undone
state_after transition.UndoMissed = Committed
state_after transition.UndoFail = Fixed

-- the state that decides which transition may start: a void step is compensated as a committed one is
abbrev pub unvoided : StepState → StepState
unvoided Void = Committed
unvoided x = x

-- the transitions of a step, last first
abbrev pub transitions : List Change → ℕ → List Transition
transitions [] s = []
transitions (moves r t ∷ l) s = if s == r then t ∷ transitions l s else transitions l s
transitions (_ ∷ l) s = transitions l s

-- the last transition decides the state; without one the step is waiting
abbrev pub end_state : List Transition → StepState
end_state [] = Waiting
end_state (t ∷ ts) = state_after t

abbrev pub state : List Change → ℕ → StepState
state l s = end_state (transitions l s)

-- the states of all steps of a definition, in order
abbrev pub states : Contents → List Change → List StepState
states d l = map (state l) (range_with_len 0 (length d.steps))

-- the step is in effect for the steps that need it: it is committed, possibly permanently, or void
abbrev pub is_standing : StepState → Bool
is_standing Committed = true
is_standing Void = true
is_standing Fixed = true
is_standing _ = false

-- its action or compensation is in progress
abbrev pub is_busy : StepState → Bool
is_busy Running = true
is_busy Undoing = true
is_busy _ = false

-- waiting, failed or undone
abbrev pub is_off : StepState → Bool
is_off Waiting = true
is_off Failed = true
is_off Undone = true
is_off _ = false

-- whether two transitions are the same
abbrev pub same_transition : Transition → Transition → Bool
same_transition transition.StartRun transition.StartRun = true
same_transition transition.Commit transition.Commit = true
same_transition transition.Void transition.Void = true
same_transition transition.Missed transition.Missed = true
same_transition transition.Fail transition.Fail = true
same_transition transition.StartUndo transition.StartUndo = true
same_transition transition.Undone transition.Undone = true
same_transition transition.UndoMissed transition.UndoMissed = true
same_transition transition.UndoFail transition.UndoFail = true
same_transition _ _ = false

-- the number of times that a step made a transition
abbrev pub times : Transition → List Change → ℕ → ℕ
times t l s = count_by (same_transition t) (transitions l s)

-- the number of times that a step committed; a step that ended without an effect counts as committed
abbrev pub times_committed : List Change → ℕ → ℕ
times_committed l s = times transition.Commit l s + times transition.Void l s
