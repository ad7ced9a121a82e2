-- A tour is booked for a trip only if it has a seat for the trip.
use Rattle.std.specs.Prelude.{◌≡◌, ℕ, ◌<◌, All, false, Some, slice_get}
use Rattle.saga_core.specs.Book.{Book}
use Rattle.saga_desk.specs.Job.{Job}
use Rattle.saga_history.specs.declared.tasks.Outcome.{Outcome}
use Rattle.saga_history.specs.declared.tasks.Outcome.TheVariants.{Done}
use Rattle.saga_trials.specs.declared.agency.Agency.{Agency}
use Rattle.saga_trials.specs.declared.agency.TheConstants.{SEATS}
use Rattle.saga_trials.specs.declared.agency.Service.TheVariants.{Tour}
use Rattle.saga_trials.specs.declared.trips.Entry.{Entry}
use Rattle.saga_trials.specs.declared.trips.Entry.TheVariants.{Booked, Refused, Cancelled}
use Rattle.saga_trials.specs.Entries.{entries_of}

-- if the step is the tour, there is a seat for the trip
abbrev pub HasSeat : Agency → ℕ → ℕ → Type 0
HasSeat agency trip step = slice_get agency.services.items step ≡ Some Tour → trip < SEATS

-- the outcomes that the agency may return for a job
abbrev pub MayAnswer : Agency → Job → Outcome → Type 0
MayAnswer agency job outcome = outcome ≡ Done → job.is_undo ≡ false → HasSeat agency job.saga job.step

-- a booked step has its seat
abbrev pub EntryHasSeat : Agency → Entry → Type 0
EntryHasSeat agency (Booked i s) = HasSeat agency i s
EntryHasSeat agency (Refused i s) = Unit {0}
EntryHasSeat agency (Cancelled i s) = Unit {0}

abbrev pub BookHasSeats : Agency → Book → Type 0
BookHasSeats agency book = All (EntryHasSeat agency) (entries_of book.history)
