use Rattle.std.proofs.Common.{◌≡◌, ◌<◌, false}
use Rattle.saga_desk.proofs.desks.Desk.wait_and_claim.Given as goal

abbrev pub invariant-loop-turn : goal.invariant-loop-turn
invariant-loop-turn g l =
    (l.seat ≡ l.fn.seat) × (l.round.looked ≡ l.turn) × (l.round.shards ≡ l.count) × (l.round.next < l.count) × (l.round.is_busy ≡ false)
