use Rattle.std.proofs.Common.{◌≡◌, ◌<◌}
use Rattle.saga_desk.proofs.desks.Desk.try_claim.Given as goal

abbrev pub invariant-loop-turn : goal.invariant-loop-turn
invariant-loop-turn g l =
    (l.seat ≡ l.fn.seat) × (l.round.looked ≡ l.turn) × (l.round.shards ≡ l.count) × (l.round.next < l.count)
