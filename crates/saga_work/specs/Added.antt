-- The receipts that seats gained.
use Rattle.std.specs.Prelude.{◌≡◌, ◌≢◌, ℕ, ◌<◌, List, ◌++◌, All, Option, None, Some, length, slice_index_or}
use Rattle.saga_history.specs.declared.events.Mark.{Mark}
use Rattle.saga_desk.specs.Seat.{Seat}
use Rattle.saga_desk.specs.declared.receipts.Receipt.{Receipt}
use Rattle.saga_work.specs.declared.faults.Stop.{Stop}
use Rattle.saga_work.specs.declared.faults.Stop.TheVariants as stop
use Rattle.saga_work.specs.declared.workers.Course.{Course}
use Rattle.saga_work.specs.declared.workers.Course.TheVariants.{Goes, Ends}

-- the seat has its earlier receipts and then others, whose marks have this property
pub record Adds (P : Mark → Type 0) (before after : Seat) : Type 0 where
  pub number : after.number ≡ before.number
  pub added : List Receipt
  pub receipts : after.receipts ≡ before.receipts ++ added
  pub marks : All (λ (r : Receipt). P r.mark) added

-- the same for each of the seats, which are paired with other values
abbrev pub EachAdds : {S : Type 0} → (Mark → Type 0) → List Seat → List (Seat × S) → Type 0
EachAdds {S} P seats done =
    (i : ℕ) (s : Seat) (d : S) → i < length seats → Adds P (slice_index_or seats i s) (slice_index_or done i (s, d)).0

-- unless the desk refused a call, the seat has this number of outstanding claims
abbrev pub HasClaims : Option Stop → Seat → ℕ → Type 0
HasClaims why seat claims = why ≢ Some stop.Refused → seat.claims ≡ claims

-- the stop of a worker that ends
abbrev pub stop_of : Course → Option Stop
stop_of Goes = None
stop_of (Ends why) = why
