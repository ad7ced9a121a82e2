-- The sagas that a history opens.
use Rattle.std.specs.Prelude.{ℕ, List, [], ◌∷◌, flat_map}
use Rattle.saga_history.specs.declared.events.Event.{Event}
use Rattle.saga_history.specs.Changes.{Change, opens, saga_of, change_of}

-- the number of a saga that an event opens
abbrev pub opened_by : ℕ → Change → List ℕ
opened_by number (opens k) = number ∷ []
opened_by number _ = []

-- the numbers of the sagas that events open, in order
abbrev pub opened_sagas : List Event → List ℕ
opened_sagas events = flat_map (λ e. opened_by (saga_of e) (change_of e)) events
