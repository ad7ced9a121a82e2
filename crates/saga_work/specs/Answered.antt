-- What an actor may request and report, and which sagas events open.
use Rattle.std.specs.Prelude.{◌≡◌, ℕ, ◌⊎◌, List, [], ◌∷◌}
use Rattle.saga_desk.specs.Job.{Job}
use Rattle.saga_history.specs.declared.events.Mark.{Mark}
use Rattle.saga_history.specs.declared.events.Mark.TheVariants as mark
use Rattle.saga_history.specs.declared.tasks.Outcome.{Outcome}
use Rattle.saga_history.specs.declared.tasks.Outcome.TheVariants.{Done}

-- a job of saga i for which the actor may return done, and after which it may request an abort
pub record MayAbort (may : Job → Outcome → Type 0) (may_abort : Job → Type 0) (i : ℕ) : Type 0 where
  pub job : Job
  pub saga : job.saga ≡ i
  pub done : may job Done
  pub asked : may_abort job

-- every outcome that the actor may return may be reported, and every abort that it may request is permitted
pub record MayBeTold (may : Job → Outcome → Type 0) (may_abort : Job → Type 0) (told : Job → Outcome → Type 0) (told_abort : ℕ → Type 0) : Type 0 where
  pub outcomes : (job : Job) (o : Outcome) → may job o → told job o
  pub aborts : (i : ℕ) → MayAbort may may_abort i → told_abort i

-- the saga and the definition of an opening
abbrev pub opening : Mark → List (ℕ × ℕ)
opening (mark.Open i k) = (i, k) ∷ []
opening (mark.StartRun i s) = []
opening (mark.Commit i s) = []
opening (mark.Fail i s) = []
opening (mark.StartUndo i s) = []
opening (mark.Undone i s) = []
opening (mark.UndoFail i s) = []
opening (mark.StartPlan i) = []
opening (mark.DropPlan i) = []
opening (mark.Adopt i) = []
opening (mark.Missed i s) = []
opening (mark.UndoMissed i s) = []
opening (mark.Abort i) = []
opening (mark.Void i s) = []

-- an event that a worker may add: it is not an opening
abbrev pub IsWork : Mark → Type 0
IsWork m = opening m ≡ []

-- the abort of saga i
abbrev pub IsAbortOf : ℕ → Mark → Type 0
IsAbortOf i m = m ≡ mark.Abort i

-- the end of a plan of saga i
abbrev pub EndsPlan : ℕ → Mark → Type 0
EndsPlan i m = (m ≡ mark.Adopt i) ⊎ (m ≡ mark.DropPlan i)
