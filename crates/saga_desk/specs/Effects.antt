-- The effects of calls on a book and on a seat.
use Rattle.std.specs.Prelude.{◌≡◌, ℕ, ◌+◌, ◌-◌, Bool, true, false, List, [], ◌∷◌, ◌++◌, length, slice_get, IsSomeAnd}
use Rattle.saga_def.specs.Contents.{Contents}
use Rattle.saga_def.specs.declared.steps.Step.{Step}
use Rattle.saga_history.specs.declared.events.Event.{Event}
use Rattle.saga_history.specs.declared.events.Event.TheVariants as event
use Rattle.saga_history.specs.declared.events.Mark.{Mark}
use Rattle.saga_history.specs.declared.events.Mark.TheVariants as mark
use Rattle.saga_history.specs.declared.tasks.Outcome.{Outcome}
use Rattle.saga_history.specs.declared.tasks.Task.TheVariants as task
use Rattle.saga_history.specs.declared.transitions.Transition.{Transition}
use Rattle.saga_history.specs.declared.transitions.Transition.TheVariants as transition
use Rattle.saga_history.specs.Changes.{Change, mark_of, step_event}
use Rattle.saga_history.specs.Tasks.{IsEndOf, missed}
use Rattle.saga_core.specs.Book.{Book, with_event, Allows}
use Rattle.saga_core.specs.Refusals.{IsPresentCase, OfSaga}
use Rattle.saga_core.specs.Tasks.{AllAreOver, IsFirstTask, NoTaskIsAllowed}
use Rattle.saga_desk.specs.Job.{Job, kind_of}
use Rattle.saga_desk.specs.Seat.{Seat}
use Rattle.saga_desk.specs.declared.jobs.Claim.{Claim}
use Rattle.saga_desk.specs.declared.jobs.Claim.TheVariants.{Run, Undo, Plan, Idle, Settled}
use Rattle.saga_desk.specs.declared.receipts.Receipt.{Receipt}

-- the receipt of an event that is added to this book
abbrev pub receipt_of : Book → Event → Receipt
receipt_of book e = record { shard = book.first; mark = mark_of e; place = length book.history }

-- the book has this event in addition, the seat has its receipt, and the seat then has this number of outstanding
-- claims
pub record Records (old new : Book) (before after : Seat) (e : Event) (claims : ℕ) : Type 0 where
  pub event : new ≡ with_event old e
  pub receipt : after ≡ record { number = before.number; receipts = before.receipts ++ receipt_of old e ∷ []; claims = claims }

-- book and seat are unchanged
pub record StayAsTheyWere (old new : Book) (before after : Seat) : Type 0 where
  pub book : new ≡ old
  pub seat : after ≡ before

-- the transition that starts an action or a compensation
abbrev pub start_of : Bool → Transition
start_of false = transition.StartRun
start_of true = transition.StartUndo

-- the step of a definition has that name
abbrev pub IsNamed : Contents → ℕ → List ℕ → Type 0
IsNamed d s name = IsSomeAnd (slice_get d.steps s) (λ (step : Step). step.name ≡ name)

-- for a saga with this definition and these changes, the job is the next attempt of its step, counted from 1, and has
-- the step's name
pub record IsAttempt (d : Contents) (l : List Change) (job : Job) : Type 0 where
  pub name : IsNamed d job.step job.name
  pub attempt : job.attempt ≡ missed (kind_of job.is_undo) l job.step + 1

-- the same for the job's saga in a book
abbrev pub IsNextAttempt : Book → Job → Type 0
IsNextAttempt b job = OfSaga b job.saga (λ d l. IsAttempt d l job)

-- the job of seat k at step s of saga i: its action or its compensation, the next attempt at it
pub record IsJob (b : Book) (k i s : ℕ) (undo : Bool) (job : Job) : Type 0 where
  pub seat : job.seat ≡ k
  pub saga : job.saga ≡ i
  pub step : job.step ≡ s
  pub is_undo : job.is_undo ≡ undo
  pub next : IsNextAttempt b job

-- the first task of the book is claimed, and nothing else changes
abbrev pub ClaimsFirst : Book → Book → Seat → Seat → Claim → Type 0
ClaimsFirst old new before after (Run job) =
    IsFirstTask old (task.Run job.saga job.step)
    × IsJob old before.number job.saga job.step false job
    × Records old new before after (event.StartRun job.saga job.step) (before.claims + 1)
ClaimsFirst old new before after (Undo job) =
    IsFirstTask old (task.Undo job.saga job.step)
    × IsJob old before.number job.saga job.step true job
    × Records old new before after (event.StartUndo job.saga job.step) (before.claims + 1)
ClaimsFirst old new before after (Plan job case) =
    IsFirstTask old (task.Plan job.saga)
    × (job.seat ≡ before.number)
    × IsPresentCase old job.saga case
    × Records old new before after (event.StartPlan job.saga) (before.claims + 1)
ClaimsFirst old new before after Idle = ⊥
ClaimsFirst old new before after Settled = ⊥

-- the result for a seat that asks for work: the first task of the book, claimed; or that no task exists, without a
-- change: not every saga is ended or stuck, or each is
abbrev pub Serves : Book → Book → Seat → Seat → Claim → Type 0
Serves old new before after (Run job) = ClaimsFirst old new before after (Run job)
Serves old new before after (Undo job) = ClaimsFirst old new before after (Undo job)
Serves old new before after (Plan job case) = ClaimsFirst old new before after (Plan job case)
Serves old new before after Idle =
    NoTaskIsAllowed old × (AllAreOver old → ⊥) × StayAsTheyWere old new before after
Serves old new before after Settled = AllAreOver old × StayAsTheyWere old new before after

-- the claim says that each saga is ended or stuck
abbrev pub IsSettled : Claim → Type 0
IsSettled claim = claim ≡ Settled

-- the job, which was the next attempt of its step, ended with its outcome by a transition that was allowed
pub record EndsBy (old new : Book) (before after : Seat) (job : Job) (outcome : Outcome) (t : Transition) : Type 0 where
  pub next : IsNextAttempt old job
  pub ends : IsEndOf (kind_of job.is_undo) outcome t
  pub allowed : Allows old (step_event job.saga job.step t)
  pub records : Records old new before after (step_event job.saga job.step t) (before.claims - 1)

abbrev pub Ends : Book → Book → Seat → Seat → Job → Outcome → Type 0
Ends old new before after job outcome = (t : Transition) × EndsBy old new before after job outcome t

-- the seat has one receipt more, with this mark, and then this number of outstanding claims
abbrev pub Gains : Seat → Seat → Mark → ℕ → Type 0
Gains before after m claims =
    (r : Receipt) × (r.mark ≡ m) × (after ≡ record { number = before.number; receipts = before.receipts ++ r ∷ []; claims = claims })

-- the same for a receipt on this shard
abbrev pub GainsOn : ℕ → Seat → Seat → Mark → Type 0
GainsOn shard before after m =
    (r : Receipt) × (r.shard ≡ shard) × (r.mark ≡ m)
    × (after ≡ record { number = before.number; receipts = before.receipts ++ r ∷ []; claims = before.claims })

-- the effect of a claim on the seat
abbrev pub Claims : Seat → Seat → Claim → Type 0
Claims before after (Run job) =
    (job.seat ≡ before.number) × (job.is_undo ≡ false) × Gains before after (mark.StartRun job.saga job.step) (before.claims + 1)
Claims before after (Undo job) =
    (job.seat ≡ before.number) × (job.is_undo ≡ true) × Gains before after (mark.StartUndo job.saga job.step) (before.claims + 1)
Claims before after (Plan job case) =
    (job.seat ≡ before.number) × Gains before after (mark.StartPlan job.saga) (before.claims + 1)
Claims before after Idle = after ≡ before
Claims before after Settled = after ≡ before

-- the seat gained the receipt for the end of the job with its outcome
abbrev pub GainsEnd : Seat → Seat → Job → Outcome → Type 0
GainsEnd before after job outcome =
    (t : Transition) × IsEndOf (kind_of job.is_undo) outcome t × Gains before after (mark_of (step_event job.saga job.step t)) (before.claims - 1)
