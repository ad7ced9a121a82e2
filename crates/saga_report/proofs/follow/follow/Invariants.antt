use Rattle.std.proofs.Common.{ℕ, ◌≤◌, take, nat_eq, MatchOption}
use Rattle.std.specs.HashMap.{get}
use Rattle.saga_report.specs.Tells.{Follows}
use Rattle.saga_report.proofs.follow.follow.Given as goal

abbrev pub invariant-loop-event : goal.invariant-loop-event
invariant-loop-event l =
    Follows l.sagas (take l.event-index l.events)
    × ((i : ℕ) → MatchOption (get nat_eq l.sagas i) (Unit {0}) (λ saga. saga.plans ≤ l.event-index))
