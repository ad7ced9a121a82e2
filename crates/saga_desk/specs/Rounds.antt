-- Rounds over the shards of a desk.
use Rattle.std.specs.Prelude.{◌≡◌, ℕ, ◌+◌, ◌%◌, ◌<◌, ◌⊎◌, Bool, true, false, Option, Some, None}
use Rattle.saga_core.specs.Book.{Book}
use Rattle.saga_core.specs.Tasks.{AllAreOver}
use Rattle.saga_desk.specs.declared.jobs.Claim.{Claim}
use Rattle.saga_desk.specs.declared.jobs.Claim.TheVariants.{Run, Undo, Plan, Idle, Settled}
use Rattle.saga_desk.specs.declared.rounds.Found.{Found}
use Rattle.saga_desk.specs.declared.rounds.Found.TheVariants as found
use Rattle.saga_desk.specs.declared.rounds.Round.{Round}

-- whether a shard was busy after one more visit; whether all were over after one more visit
abbrev pub busy_after : Bool → Found → Bool
busy_after b found.Busy = true
busy_after b found.Idle = b
busy_after b found.Over = b

abbrev pub over_after : Bool → Found → Bool
over_after b found.Busy = b
over_after b found.Idle = false
over_after b found.Over = b

-- the round after the visit of one more shard
abbrev pub after : Round → Found → Round
after r f = record {
  shards = r.shards;
  next = (r.next + 1) % r.shards;
  looked = r.looked + 1;
  is_busy = busy_after r.is_busy f;
  is_over = over_after r.is_over f;
}

-- a round over this number of shards that starts
pub record Begins (shards : ℕ) (r : Round) : Type 0 where
  pub all : r.shards ≡ shards
  pub next : r.next < shards
  pub looked : r.looked ≡ 0
  pub is_busy : r.is_busy ≡ false
  pub is_over : r.is_over ≡ true

-- one more shard was visited; one more shard was visited, and it was not busy
abbrev pub WasLookedAt : Round → Round → Type 0
WasLookedAt old new = (f : Found) × (new ≡ after old f)

abbrev pub IsFree : Found → Type 0
IsFree f = (f ≡ found.Idle) ⊎ (f ≡ found.Over)

abbrev pub WasFree : Round → Round → Type 0
WasFree old new = (new ≡ after old found.Idle) ⊎ (new ≡ after old found.Over)

-- a shard with this book was visited; the visit found that it is over if and only if each of its sagas is ended or
-- stuck
abbrev pub WasFoundAs : Book → Round → Round → Type 0
WasFoundAs b old new =
    (AllAreOver b × (new ≡ after old found.Over)) ⊎ ((AllAreOver b → ⊥) × (new ≡ after old found.Idle))

-- a round that visited each of the shards once; whether one was busy, and whether all were over
pub record IsWhole (shards : ℕ) (r : Round) (busy over : Bool) : Type 0 where
  pub all : r.shards ≡ shards
  pub looked : r.looked ≡ shards
  pub is_busy : r.is_busy ≡ busy
  pub is_over : r.is_over ≡ over

-- the result of a round over this number of shards: a task; or, if each shard was visited and none was busy, that all
-- were over or that one was not; or nothing if one was busy
abbrev pub IsFoundBy : ℕ → Round → Option Claim → Type 0
IsFoundBy shards r (Some (Run job)) = Unit {0}
IsFoundBy shards r (Some (Undo job)) = Unit {0}
IsFoundBy shards r (Some (Plan job case)) = Unit {0}
IsFoundBy shards r (Some Idle) = IsWhole shards r false false
IsFoundBy shards r (Some Settled) = IsWhole shards r false true
IsFoundBy shards r None = (r.looked ≡ shards) × (r.is_busy ≡ true)

-- the claim is a task
abbrev pub IsTask : Claim → Type 0
IsTask (Run job) = Unit {0}
IsTask (Undo job) = Unit {0}
IsTask (Plan job case) = Unit {0}
IsTask Idle = ⊥
IsTask Settled = ⊥
