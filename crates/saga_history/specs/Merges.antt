-- Merges of histories, and the events of each saga in them.
use Rattle.std.specs.Prelude.{◌≡◌, ℕ, ◌<◌, ◌+◌, ◌*◌, Bool, true, false, ◌==◌, ◌||◌, List, [], ◌∷◌, length, slice_index, if◌then◌else◌}
use Rattle.saga_history.specs.declared.events.Event.{Event}
use Rattle.saga_history.specs.Changes.{Change, opens, saga_of, change_of}

-- a merge of two histories has all events of both, and keeps the order within each
pub data IsMerge : List Event → List Event → List Event → Type 0 where
  nothing : IsMerge [] [] []
  from_first : (e : Event) (a b c : List Event) → IsMerge a b c → IsMerge (e ∷ a) b (e ∷ c)
  from_second : (e : Event) (a b c : List Event) → IsMerge a b c → IsMerge a (e ∷ b) (e ∷ c)

-- a merge of any number of histories
abbrev pub IsMergeOf : List (List Event) → List Event → Type 0
IsMergeOf [] c = c ≡ []
IsMergeOf (a ∷ rest) c = (b : List Event) × IsMergeOf rest b × IsMerge a b c

-- whether a history has an event of a saga
abbrev pub names_saga : ℕ → List Event → Bool
names_saga i [] = false
names_saga i (e ∷ h) = (i == saga_of e) || names_saga i h

-- no saga has events in both
abbrev pub AreDisjoint : List Event → List Event → Type 0
AreDisjoint a b = (i : ℕ) → names_saga i a ≡ true → names_saga i b ≡ false

-- the property holds for each of several histories
abbrev pub EachHistory : (List Event → Type 0) → List (List Event) → Type 0
EachHistory P [] = Unit {0}
EachHistory P (a ∷ rest) = P a × EachHistory P rest

-- no saga has events in two of them
abbrev pub AllDisjoint : List (List Event) → Type 0
AllDisjoint [] = Unit {0}
AllDisjoint (a ∷ rest) = EachHistory (AreDisjoint a) rest × AllDisjoint rest

abbrev pub is_opening : Change → Bool
is_opening (opens k) = true
is_opening _ = false

-- the sagas that a history opens, in order
abbrev pub opened_sagas : List Event → List ℕ
opened_sagas [] = []
opened_sagas (e ∷ h) = if is_opening (change_of e) then saga_of e ∷ opened_sagas h else opened_sagas h

-- the numbers of the sagas of a history start at a first number, with a stride as the difference
abbrev pub IsNumbered : ℕ → ℕ → List Event → Type 0
IsNumbered first stride h =
    (k : ℕ) → k < length (opened_sagas h) → slice_index (opened_sagas h) k ≡ first + k * stride
