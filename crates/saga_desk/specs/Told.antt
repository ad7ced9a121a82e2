-- A book has only reports and aborts that are permitted.
use Rattle.std.specs.Prelude.{◌≡◌, ℕ, List, [], ◌∷◌, IsSomeAnd}
use Rattle.saga_def.specs.Contents.{Contents}
use Rattle.saga_history.specs.declared.events.Event.{Event}
use Rattle.saga_history.specs.declared.events.Mark.{Mark}
use Rattle.saga_history.specs.declared.events.Mark.TheVariants as mark
use Rattle.saga_history.specs.declared.tasks.Outcome.{Outcome}
use Rattle.saga_history.specs.declared.transitions.Transition.{Transition}
use Rattle.saga_history.specs.declared.transitions.Transition.TheVariants as transition
use Rattle.saga_history.specs.Changes.{changes, mark_of, past}
use Rattle.saga_history.specs.Rules.{definition}
use Rattle.saga_history.specs.Tasks.{IsEndOf}
use Rattle.saga_core.specs.Book.{Book}
use Rattle.saga_desk.specs.Effects.{IsAttempt}
use Rattle.saga_desk.specs.Job.{Job, kind_of}

-- after these events, step s of saga i ends by this transition, and the outcome may be reported for the job of the
-- step; this job is the next attempt of the step and has its name
pub record EndIsTold (may : Job → Outcome → Type 0) (shelf : List Contents) (h : List Event) (i s : ℕ) (t : Transition) : Type 0 where
  pub job : Job
  pub saga : job.saga ≡ i
  pub step : job.step ≡ s
  pub next : IsSomeAnd (definition shelf (changes i h)) (λ d. IsAttempt d (changes i h) job)
  pub outcome : Outcome
  pub ends : IsEndOf (kind_of job.is_undo) outcome t
  pub told : may job outcome

-- an event after these events: if it ends an action or a compensation, that may be reported; if it is an abort, it may
-- be requested
abbrev pub IsTold : (Job → Outcome → Type 0) → (ℕ → Type 0) → List Contents → List Event → Mark → Type 0
IsTold may may_abort shelf h (mark.Open i k) = Unit {0}
IsTold may may_abort shelf h (mark.StartRun i s) = Unit {0}
IsTold may may_abort shelf h (mark.Commit i s) = EndIsTold may shelf h i s transition.Commit
IsTold may may_abort shelf h (mark.Fail i s) = EndIsTold may shelf h i s transition.Fail
IsTold may may_abort shelf h (mark.StartUndo i s) = Unit {0}
IsTold may may_abort shelf h (mark.Undone i s) = EndIsTold may shelf h i s transition.Undone
IsTold may may_abort shelf h (mark.UndoFail i s) = EndIsTold may shelf h i s transition.UndoFail
IsTold may may_abort shelf h (mark.StartPlan i) = Unit {0}
IsTold may may_abort shelf h (mark.DropPlan i) = Unit {0}
IsTold may may_abort shelf h (mark.Adopt i) = Unit {0}
IsTold may may_abort shelf h (mark.Missed i s) = EndIsTold may shelf h i s transition.Missed
IsTold may may_abort shelf h (mark.UndoMissed i s) = EndIsTold may shelf h i s transition.UndoMissed
IsTold may may_abort shelf h (mark.Abort i) = may_abort i
IsTold may may_abort shelf h (mark.Void i s) = EndIsTold may shelf h i s transition.Void

-- each event of a past, after the events before it
abbrev pub AreTold : (Job → Outcome → Type 0) → (ℕ → Type 0) → List Contents → List Event → Type 0
AreTold may may_abort shelf [] = Unit {0}
AreTold may may_abort shelf (e ∷ h) = IsTold may may_abort shelf h (mark_of e) × AreTold may may_abort shelf h

-- each event of the book
abbrev pub HoldsTold : (Job → Outcome → Type 0) → (ℕ → Type 0) → Book → Type 0
HoldsTold may may_abort book = AreTold may may_abort book.shelf (past book.history)
