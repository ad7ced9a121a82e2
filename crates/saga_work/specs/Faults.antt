-- The faults and stops of a run.
use Rattle.std.specs.Prelude.{ℕ, ◌<◌, ◌≤◌, ◌/◌, Bool, true, false, List, [], ◌∷◌, Option, Some, None, length, slice_index}
use Rattle.saga_def.specs.Contents.{Contents}
use Rattle.saga_core.specs.declared.refusals.OpenRefusal.{OpenRefusal}
use Rattle.saga_core.specs.declared.refusals.OpenRefusal.TheVariants as opening
use Rattle.saga_desk.specs.declared.desks.finish.FinishRefused.{FinishRefused}
use Rattle.saga_desk.specs.declared.desks.finish.FinishRefused.TheVariants as finish
use Rattle.saga_work.specs.declared.faults.FinishFault.TheVariants.{Stranger, Missing, Torn}
use Rattle.saga_work.specs.declared.faults.RunFault.{RunFault}
use Rattle.saga_work.specs.declared.faults.RunFault.TheVariants.{Open, Finish, OutOfMemory}
use Rattle.saga_work.specs.declared.faults.Stop.{Stop}
use Rattle.saga_work.specs.declared.faults.Stop.TheVariants as stop

-- the fault of a run whose saga with this number was not opened; the fault of a run whose desk was not finished
abbrev pub fault_of_opening : ℕ → OpenRefusal → RunFault
fault_of_opening saga opening.NoSuchDefinition = Open saga opening.NoSuchDefinition
fault_of_opening saga opening.Full = Open saga opening.Full
fault_of_opening saga opening.OutOfMemory = OutOfMemory

abbrev pub fault_of_finish : {P : Type 0} → FinishRefused P → RunFault
fault_of_finish (finish.Stranger desk seats) = Finish Stranger
fault_of_finish (finish.Missing desk seats) = Finish Missing
fault_of_finish (finish.OutOfMemory desk seats) = OutOfMemory
fault_of_finish (finish.Torn books seats) = Finish Torn

-- the first n requested definitions are on the shelf
abbrev pub AreOnShelf : List Contents → List ℕ → ℕ → Type 0
AreOnShelf shelf asks n = (k : ℕ) → k < n → slice_index asks k < length shelf

-- the maximum number of sagas of a shard
abbrev pub max_sagas : ℕ
max_sagas = 1000

-- why the saga with this number is not opened, if sagas are assigned to shards in turn: its definition is not on the
-- shelf; or it is, and its shard has the maximum number of sagas
abbrev pub IsOpenFault : ℕ → List Contents → List ℕ → ℕ → OpenRefusal → Type 0
IsOpenFault shards shelf asks j opening.NoSuchDefinition = length shelf ≤ slice_index asks j
IsOpenFault shards shelf asks j opening.Full = (slice_index asks j < length shelf) × (max_sagas ≤ j / shards)
IsOpenFault shards shelf asks j opening.OutOfMemory = ⊥

-- the possible faults of a run: the first saga that could not be opened; the receipts do not agree with the books; or a
-- memory allocation failed. The returned seats are those of the desk, so no seat is missing or unknown
abbrev pub IsRunFault : ℕ → List Contents → List ℕ → RunFault → Type 0
IsRunFault shards shelf asks (Open j why) = (j < length asks) × AreOnShelf shelf asks j × IsOpenFault shards shelf asks j why
IsRunFault shards shelf asks (Finish Stranger) = ⊥
IsRunFault shards shelf asks (Finish Missing) = ⊥
IsRunFault shards shelf asks (Finish Torn) = AreOnShelf shelf asks (length asks)
IsRunFault shards shelf asks OutOfMemory = Unit {0}

-- the first stop of several workers, in the order of their seats
abbrev pub first_stop : List (Option Stop) → Option Stop
first_stop [] = None
first_stop (None ∷ stops) = first_stop stops
first_stop (Some why ∷ stops) = Some why

-- the stop of a run: that of its workers; if they have none and a saga is neither ended nor stuck, that the desk
-- refused
abbrev pub stop_told : Option Stop → Bool → Option Stop
stop_told (Some why) over = Some why
stop_told None true = None
stop_told None false = Some stop.Refused
