-- Why a call is refused.
use Rattle.std.specs.Prelude.{◌≡◌, ℕ, ◌<◌, ◌≤◌, ◌%◌, length}
use Rattle.saga_case.specs.Situation.{Situation}
use Rattle.saga_history.specs.Tasks.{busy_state}
use Rattle.saga_core.specs.Book.{Book}
use Rattle.saga_core.specs.Refusals.{AdoptIsRefused, DropRefused, OfSaga, OpenRefused, ReportRefused}
use Rattle.saga_core.specs.declared.refusals.AdoptRefusal.{AdoptRefusal}
use Rattle.saga_core.specs.declared.refusals.DropRefusal.{DropRefusal}
use Rattle.saga_core.specs.declared.refusals.OpenRefusal.{OpenRefusal}
use Rattle.saga_core.specs.declared.refusals.OpenRefusal.TheVariants as opening
use Rattle.saga_core.specs.declared.refusals.ReportRefusal.{ReportRefusal}
use Rattle.saga_desk.specs.Desk.{Desk}
use Rattle.saga_desk.specs.Effects.{IsAttempt}
use Rattle.saga_desk.specs.Job.{Job, PlanJob, kind_of}
use Rattle.saga_desk.specs.Seat.{Seat}
use Rattle.saga_desk.specs.declared.refusals.EndRefusal.{EndRefusal}
use Rattle.saga_desk.specs.declared.refusals.EndRefusal.TheVariants as end

-- the seat has this number and an outstanding claim
pub record HasClaimed (number : ℕ) (seat : Seat) : Type 0 where
  pub own : number ≡ seat.number
  pub some : 0 < seat.claims

-- the book has `count` definitions, and numbers its sagas as the shard with this number, out of `shards`, does
pub record IsOnShard (count shards shard : ℕ) (b : Book) : Type 0 where
  pub shelf : length b.shelf ≡ count
  pub first : b.first ≡ shard
  pub stride : b.stride ≡ shards

-- the property holds for a book that the shard with this number had
abbrev pub OnShard : ℕ → ℕ → ℕ → (Book → Type 0) → Type 0
OnShard shelf shards shard P = (b : Book) × IsOnShard shelf shards shard b × P b

-- the property holds for a book that the shard of this saga had
abbrev pub OnShardOf : Desk → ℕ → (Book → Type 0) → Type 0
OnShardOf desk saga P = OnShard (length desk.shelf) desk.shards (saga % desk.shards) P

-- why a desk opens no saga on a shard: its definition is not on the shelf; or it is, and the shard is full or memory is
-- lacking
abbrev pub OpenIsRefused : ℕ → ℕ → ℕ → ℕ → OpenRefusal → Type 0
OpenIsRefused shelf shards shard k opening.NoSuchDefinition = shelf ≤ k
OpenIsRefused shelf shards shard k opening.Full = (k < shelf) × OnShard shelf shards shard (λ b. OpenRefused b k opening.Full)
OpenIsRefused shelf shards shard k opening.OutOfMemory = (k < shelf) × OnShard shelf shards shard (λ b. OpenRefused b k opening.OutOfMemory)

-- the step exists, and the job is not its next attempt or has another name
abbrev pub IsOfAnother : Book → Job → Type 0
IsOfAnother b job = OfSaga b job.saga (λ d l. (job.step < length d.steps) × (IsAttempt d l job → ⊥))

-- why the end of a job or plan that a seat claimed is refused: another seat reports it, it is not the next attempt, or
-- the book refuses it
abbrev pub EndIsRefused : {W : Type 0} → ℕ → Seat → Type 0 → (W → Type 0) → EndRefusal W → Type 0
EndIsRefused number seat other P end.OtherSeat = HasClaimed number seat → ⊥
EndIsRefused number seat other P end.OtherAttempt = HasClaimed number seat × other
EndIsRefused number seat other P (end.Book why) = HasClaimed number seat × P why

-- why a report, an adoption or the end of a planning is refused
abbrev pub ReportIsRefused : Book → Seat → Job → EndRefusal ReportRefusal → Type 0
ReportIsRefused book seat job why =
    EndIsRefused job.seat seat (IsOfAnother book job)
    (ReportRefused book job.saga job.step (busy_state (kind_of job.is_undo))) why

abbrev pub AdoptionIsRefused : Book → Seat → PlanJob → Situation → EndRefusal AdoptRefusal → Type 0
AdoptionIsRefused book seat job case why =
    EndIsRefused job.seat seat ⊥ (AdoptIsRefused book job.saga case) why

abbrev pub GivingBackIsRefused : Book → Seat → PlanJob → EndRefusal DropRefusal → Type 0
GivingBackIsRefused book seat job why = EndIsRefused job.seat seat ⊥ (DropRefused book job.saga) why
