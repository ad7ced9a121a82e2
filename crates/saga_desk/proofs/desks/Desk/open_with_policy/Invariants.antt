use Rattle.std.proofs.Common.{◌≡◌, ◌<◌, ℕ, vec_len, Some, []}
use Rattle.std.specs.List.{slice_get}
use Rattle.std.specs.Vec.{vec_capacity}
use Rattle.saga_desk.specs.declared.desks.Slot.{Slot}
use Rattle.saga_desk.proofs.desks.Desk.open_with_policy.Given as goal

abbrev pub invariant-loop-shard : goal.invariant-loop-shard
invariant-loop-shard g l = (vec_len l.slots ≡ l.shard) × (vec_capacity l.slots ≡ l.shards)
    × ((k : ℕ) (s : Slot _) → slice_get l.slots.items k ≡ Some s → s.number ≡ k)

abbrev pub invariant-loop-number : goal.invariant-loop-number
invariant-loop-number g l = (vec_len l.all ≡ l.number) × (vec_capacity l.all ≡ l.seats)
    × ((k : ℕ) → k < l.number → slice_get l.all.items k ≡ Some (record { number = k; receipts = []; claims = 0 }))
