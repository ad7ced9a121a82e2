-- When a desk can be finished, and what then holds for its books.
use Rattle.std.specs.Prelude.{◌≡◌, ◌≢◌, ℕ, ◌<◌, List, [], Some, length, map, slice_get}
use Rattle.saga_def.specs.Contents.{Contents}
use Rattle.saga_history.specs.declared.events.Event.{Event}
use Rattle.saga_history.specs.declared.events.Mark.{Mark}
use Rattle.saga_history.specs.Changes.{mark_of, past}
use Rattle.saga_history.specs.Headline.{Headline}
use Rattle.saga_history.specs.Merges.{IsMergeOf, IsNumbered}
use Rattle.saga_history.specs.Rules.{IsLegal}
use Rattle.saga_core.specs.Book.{Book, IsLegalBook}
use Rattle.saga_desk.specs.Agreement.{Agree, receipts_of}
use Rattle.saga_desk.specs.Desk.{Desk}
use Rattle.saga_desk.specs.Merges.{IsMerge}
use Rattle.saga_desk.specs.Seat.{Seat}
use Rattle.saga_desk.specs.declared.desks.finish.FinishRefused.{FinishRefused}
use Rattle.saga_desk.specs.declared.desks.finish.FinishRefused.TheVariants.{Stranger, Missing, OutOfMemory, Torn}

-- the seats that a desk creates: numbered from 0, without receipts
pub record AreFirstSeats (count : ℕ) (seats : List Seat) : Type 0 where
  pub all : length seats ≡ count
  pub new : (k : ℕ) → k < count → slice_get seats k ≡ Some (record { number = k; receipts = []; claims = 0 })

-- each seat has a number of the desk, and no number occurs twice
pub record AreOwn (desk : Desk) (seats : List Seat) : Type 0 where
  pub known : (i : ℕ) (s : Seat) → slice_get seats i ≡ Some s → s.number < desk.seats
  pub once : (i j : ℕ) (s t : Seat) → slice_get seats i ≡ Some s → slice_get seats j ≡ Some t → j < i → t.number ≢ s.number

-- all seats of the desk, each once
pub record AreAll (desk : Desk) (seats : List Seat) : Type 0 where
  pub own : AreOwn desk seats
  pub all : length seats ≡ desk.seats

-- a book with this shelf, which numbers its sagas as the shard with this number, out of `shards`, does
pub record IsOfShard (definitions : List Contents) (shards shard : ℕ) (book : Book) : Type 0 where
  pub shelf : book.shelf ≡ definitions
  pub first : book.first ≡ shard
  pub stride : book.stride ≡ shards

-- a book for each shard
pub record AreOfShards (shelf : List Contents) (shards : ℕ) (books : List Book) : Type 0 where
  pub all : length books ≡ shards
  pub each : (i : ℕ) (b : Book) → slice_get books i ≡ Some b → IsOfShard shelf shards i b

abbrev pub events_of : List Book → List (List Event)
events_of books = map (λ b. b.history) books

-- the history of a book is legal, and its sagas are numbered as the book says
pub record KeepsLegalHistory (book : Book) : Type 0 where
  pub legal : IsLegalBook book
  pub numbered : IsNumbered book.first book.stride book.history

abbrev pub KeepLegalHistories : List Book → Type 0
KeepLegalHistories books = (i : ℕ) (b : Book) → slice_get books i ≡ Some b → KeepsLegalHistory b

-- each merge of the histories is legal, so the main theorem holds for it
abbrev pub MergesAreLegal : List Contents → List Book → Type 0
MergesAreLegal shelf books = (m : List Event) → IsMergeOf (events_of books) m → IsLegal shelf (past m)

abbrev pub HeadlineHolds : List Contents → List Book → Type 0
HeadlineHolds shelf books = (m : List Event) → IsMergeOf (events_of books) m → Headline shelf (past m)

-- the marks of the receipts of each seat
abbrev pub marks_told : List Seat → List (List Mark)
marks_told seats = map (map (λ r. r.mark)) (receipts_of seats)

-- the events that the seats added form one legal history: a merge of the books' histories, whose marks are a merge of
-- the marks of the seats' receipts
pub record DidOneHistory (shelf : List Contents) (books : List Book) (seats : List Seat) : Type 0 where
  pub history : List Event
  pub of_books : IsMergeOf (events_of books) history
  pub of_seats : IsMerge (marks_told seats) (map mark_of history)
  pub legal : IsLegal shelf (past history)

-- a book for each shard; each book has a legal history, and its sagas have the numbers of the book
pub record AreBooks (shards : ℕ) (books : List Book) : Type 0 where
  pub all : length books ≡ shards
  pub legal : KeepLegalHistories books

-- why a desk is not finished; the arguments are returned, and if the books do not fit, the books from its locks are
-- returned instead of the desk
abbrev pub FinishIsRefused : {P : Type 0} → Desk → List Seat → FinishRefused P → Type 0
FinishIsRefused desk seats (Stranger d ss) = (d ≡ desk) × (ss.items ≡ seats) × (AreOwn desk seats → ⊥)
FinishIsRefused desk seats (Missing d ss) = (d ≡ desk) × (ss.items ≡ seats) × AreOwn desk seats × (length seats ≢ desk.seats)
FinishIsRefused desk seats (OutOfMemory d ss) = (d ≡ desk) × (ss.items ≡ seats) × AreAll desk seats
FinishIsRefused desk seats (Torn books ss) =
    (ss.items ≡ seats) × AreAll desk seats × AreBooks desk.shards books.items
    × (AreOfShards desk.shelf desk.shards books.items × Agree books.items seats → ⊥)
