use Rattle.std.proofs.Common.{ℕ, ◌<◌, ◌≡◌, ◌≢◌, Some}
use Rattle.std.specs.List.{slice_get}
use Rattle.saga_desk.specs.Seat.{Seat}
use Rattle.saga_desk.proofs.desks.finish.are_own.Given as goal

abbrev pub invariant-loop-i : goal.invariant-loop-i
invariant-loop-i g l = record {
  known : (k : ℕ) (s : Seat) → k < l.i → slice_get l.seats k ≡ Some s → s.number < l.desk.seats;
  once : (k j : ℕ) (s t : Seat) → k < l.i → slice_get l.seats k ≡ Some s → slice_get l.seats j ≡ Some t → j < k → t.number ≢ s.number;
}
