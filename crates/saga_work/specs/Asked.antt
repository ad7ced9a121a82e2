-- The sagas that a run was asked to open, and the sagas in its books.
use Rattle.std.specs.Prelude.{◌≡◌, ◌≢◌, ℕ, ◌<◌, ◌+◌, ◌%◌, ◌==◌, cond, List, [], ◌∷◌, ◌++◌, All, Some, flat_map, length, map, slice_get, slice_index_or}
use Rattle.saga_history.specs.declared.events.Mark.{Mark}
use Rattle.saga_history.specs.declared.tasks.Outcome.{Outcome}
use Rattle.saga_history.specs.Changes.{mark_of}
use Rattle.saga_history.specs.Merges.{IsNumbered}
use Rattle.saga_core.specs.Book.{Book}
use Rattle.saga_desk.specs.Agreement.{receipts_of}
use Rattle.saga_desk.specs.Finish.{events_of}
use Rattle.saga_desk.specs.Job.{Job}
use Rattle.saga_desk.specs.Seat.{Seat}
use Rattle.saga_desk.specs.declared.receipts.Receipt.{Receipt}
use Rattle.saga_history.specs.declared.events.Event.{Event}
use Rattle.saga_desk.specs.Told.{HoldsTold}
use Rattle.saga_work.specs.Answered.{MayAbort, opening}

-- the requested definitions of this shard, from the j-th on: saga and definition
abbrev pub asked : ℕ → ℕ → ℕ → List ℕ → List (ℕ × ℕ)
asked shards shard j [] = []
asked shards shard j (k ∷ ks) =
    cond (j % shards == shard) ((j, k) ∷ asked shards shard (j + 1) ks) (asked shards shard (j + 1) ks)

-- the openings of a history, in order: saga and definition
abbrev pub opened_in : List Event → List (ℕ × ℕ)
opened_in h = flat_map (λ e. opening (mark_of e)) h

-- the books have saga j with the j-th requested definition, on shard j modulo shards, each opened once, and no other
-- saga
pub record AreOpenedAsAsked (shards : ℕ) (asks : List ℕ) (books : List Book) : Type 0 where
  pub all : length books ≡ shards
  pub each : (s : ℕ) → s < shards → opened_in (slice_index_or (events_of books) s []) ≡ asked shards s 0 asks

-- for each end of an action or a compensation in the books, the actor may return this outcome for the job of this
-- attempt, with the step's name; and the actor may request each abort
abbrev pub AreAnswered : (Job → Outcome → Type 0) → (Job → Type 0) → List Book → Type 0
AreAnswered may may_abort books = All (HoldsTold may (MayAbort may may_abort)) books

-- the openings on a shard among receipts
abbrev pub opening_on : ℕ → Receipt → List (ℕ × ℕ)
opening_on shard r = cond (r.shard == shard) (opening r.mark) []

abbrev pub definitions_in : List (ℕ × ℕ) → List ℕ
definitions_in opened = map (λ p. p.1) opened

-- on each shard, the definitions that these receipts open are the requested ones, in order
abbrev pub OpensAll : ℕ → List ℕ → List Receipt → Type 0
OpensAll shards asks rs =
    (s : ℕ) → s < shards → definitions_in (flat_map (opening_on s) rs) ≡ definitions_in (asked shards s 0 asks)

-- the receipt of an opening
abbrev pub IsOpening : Receipt → Type 0
IsOpening r = opening r.mark ≢ []

-- the first seat has opened the requested sagas and done nothing else, and the others have no receipts
pub record AreOpened (shards : ℕ) (asks : List ℕ) (seats : List Seat) : Type 0 where
  pub all : OpensAll shards asks (slice_index_or (receipts_of seats) 0 [])
  pub only : All IsOpening (slice_index_or (receipts_of seats) 0 [])
  pub others : (i : ℕ) → i ≢ 0 → slice_index_or (receipts_of seats) i [] ≡ []

-- this number of seats, numbered from 0
pub record AreSeated (count : ℕ) (seats : List Seat) : Type 0 where
  pub all : length seats ≡ count
  pub number : (i : ℕ) (s : Seat) → slice_get seats i ≡ Some s → s.number ≡ i

-- each seat has its earlier receipts and then others, whose marks have this property
abbrev pub EachGained : (Mark → Type 0) → List Seat → List Seat → Type 0
EachGained P seats back =
    (i : ℕ) → (added : List Receipt)
    × (slice_index_or (receipts_of back) i [] ≡ slice_index_or (receipts_of seats) i [] ++ added)
    × All (λ (r : Receipt). P r.mark) added

-- each book numbers its sagas from its first number on, with its stride as the difference
abbrev pub AreNumbered : List Book → Type 0
AreNumbered books = All (λ (b : Book). IsNumbered b.first b.stride b.history) books
