-- How many elements of lists are consumed.
use Rattle.std.specs.Prelude.{◌≡◌, ℕ, List, [], ◌∷◌, slice_index_or, drop}
use Rattle.saga_core.specs.Book.{Book}
use Rattle.saga_desk.specs.Agreement.{histories_of, receipts_of}
use Rattle.saga_desk.specs.Seat.{Seat}

-- the rest of each list after this number of elements
abbrev pub rests : {X : Type 0} → List (List X) → List ℕ → List (List X)
rests [] cs = []
rests (l ∷ ls) [] = l ∷ ls
rests (l ∷ ls) (c ∷ cs) = drop c l ∷ rests ls cs

-- x is the next element of the list at i
abbrev pub IsNextOf : {X : Type 0} → List (List X) → List ℕ → ℕ → X → Type 0
IsNextOf {X} ls cs i x = (r : List X) × (slice_index_or (rests ls cs) i [] ≡ x ∷ r)

-- one element is next in the history at i and in the receipts at k
abbrev pub IsNext : {X : Type 0} → List (List X) → List ℕ → List (List X) → List ℕ → ℕ → ℕ → Type 0
IsNext {X} hs taken ss told i k = (x : X) × IsNextOf hs taken i x × IsNextOf ss told k x

-- no element is next both in these receipts and in a history
abbrev pub NoneIsNext : {X : Type 0} → List (List X) → List ℕ → List (List X) → List ℕ → ℕ → Type 0
NoneIsNext hs taken ss told k = (i : ℕ) → IsNext hs taken ss told i k → ⊥

-- the same for books and seats
abbrev pub IsNextIn : List Book → List ℕ → List Seat → List ℕ → ℕ → ℕ → Type 0
IsNextIn books taken seats told i k = IsNext (histories_of books) taken (receipts_of seats) told i k

abbrev pub NoneIsNextIn : List Book → List ℕ → List Seat → List ℕ → ℕ → Type 0
NoneIsNextIn books taken seats told k = NoneIsNext (histories_of books) taken (receipts_of seats) told k
