use Rattle.std.proofs.Common.{ℕ, ◌<◌, ◌≡◌, ◌≢◌, Some}
use Rattle.std.specs.List.{slice_get}
use Rattle.saga_desk.specs.Seat.{Seat}
use Rattle.saga_desk.proofs.desks.finish.is_new.Given as goal

abbrev pub invariant-loop-j : goal.invariant-loop-j
invariant-loop-j l = (k : ℕ) (t : Seat) → k < l.j → slice_get l.seats k ≡ Some t → t.number ≢ l.number
