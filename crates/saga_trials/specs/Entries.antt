-- The entries of the service for the events of a history.
use Rattle.std.specs.Prelude.{◌≡◌, ◌++◌, List, Option, Some, None}
use Rattle.std.specs.List.{filter_map}
use Rattle.saga_core.specs.Book.{Book}
use Rattle.saga_history.specs.declared.events.Event.{Event}
use Rattle.saga_history.specs.declared.events.Event.TheVariants as event
use Rattle.saga_trials.specs.declared.trips.Entry.{Entry}
use Rattle.saga_trials.specs.declared.trips.Entry.TheVariants.{Booked, Refused, Cancelled}

-- the end of an action has an entry, and so has the end of a compensation, which never fails here; an action without an
-- effect booked nothing
abbrev pub entry_of : Event → Option Entry
entry_of (event.Open i k) = None
entry_of (event.StartRun i s) = None
entry_of (event.Commit i s) = Some (Booked i s)
entry_of (event.Fail i s) = Some (Refused i s)
entry_of (event.StartUndo i s) = None
entry_of (event.Undone i s) = Some (Cancelled i s)
entry_of (event.UndoFail i s) = None
entry_of (event.StartPlan i) = None
entry_of (event.DropPlan i) = None
entry_of (event.Adopt i a) = None
entry_of (event.Missed i s) = Some (Refused i s)
entry_of (event.UndoMissed i s) = None
entry_of (event.Abort i) = None
entry_of (event.Void i s) = Some (Refused i s)

abbrev pub entries_of : List Event → List Entry
entries_of h = filter_map entry_of h

-- the new events of a book have these entries
abbrev pub AreNoted : Book → Book → List Entry → Type 0
AreNoted old new entries = entries_of new.history ≡ entries_of old.history ++ entries
