-- When the receipts of seats agree with the events of books.
use Rattle.std.specs.Prelude.{ℕ, ◌+◌, List, [], ◌∷◌, map, flat_map}
use Rattle.std.specs.List.Sorted.{IsPermutation}
use Rattle.saga_history.specs.declared.events.Mark.{Mark}
use Rattle.saga_history.specs.Changes.{mark_of}
use Rattle.saga_core.specs.Book.{Book}
use Rattle.saga_desk.specs.Merges.{HaveCommonMerge}
use Rattle.saga_desk.specs.Seat.{Seat}
use Rattle.saga_desk.specs.declared.receipts.Receipt.{Receipt}

-- the receipts of events with these marks, from an index on
abbrev pub numbered : ℕ → ℕ → List Mark → List Receipt
numbered shard n [] = []
numbered shard n (m ∷ ms) = record { shard = shard; mark = m; place = n } ∷ numbered shard (n + 1) ms

-- the receipts of each history, for shards from a number on
abbrev pub numbered_from : ℕ → List (List Mark) → List (List Receipt)
numbered_from shard [] = []
numbered_from shard (h ∷ hs) = numbered shard 0 h ∷ numbered_from (shard + 1) hs

abbrev pub marks_of : List Book → List (List Mark)
marks_of books = map (λ b. map mark_of b.history) books

-- each history, as the receipts of its events
abbrev pub histories_of : List Book → List (List Receipt)
histories_of books = numbered_from 0 (marks_of books)

abbrev pub receipts_of : List Seat → List (List Receipt)
receipts_of seats = map (λ s. s.receipts) seats

-- some merge of the histories, each event as its receipt, is also a merge of the receipts of all seats
abbrev pub Agree : List Book → List Seat → Type 0
Agree books seats = HaveCommonMerge (histories_of books) (receipts_of seats)

-- the elements of all lists, one list after the other
abbrev pub all_of : {X : Type 0} → List (List X) → List X
all_of ls = flat_map (λ l. l) ls

-- the receipts of all seats are those of the events of the books, each once
abbrev pub AreSameReceipts : List Book → List Seat → Type 0
AreSameReceipts books seats = IsPermutation (all_of (histories_of books)) (all_of (receipts_of seats))
