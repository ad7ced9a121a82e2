use Rattle.std.proofs.Common.{arith, ap, ◌∙◌}
use Rattle.saga_core.specs.Book.{Book}
use Rattle.saga_desk.specs.declared.desks.Slot.{Slot}
use Rattle.saga_desk.proofs.FinishLemmas.{numbered_more}
use Rattle.saga_desk.proofs.desks.Desk.open_with_policy.Goals as goal

pub loop-shard-preserved : goal.loop-shard-preserved
loop-shard-preserved g c =
    let p = c.push_reserved.ensures in
    let v = c.loop-shard.invariant in
    let number = c.new-in-loop-shard.ensures ∙ ap (λ (b : Book). b.first) c.new.ensures in (
      omega (arith, p.len, v.0),
      omega (arith, p.capacity, v.1),
      rw p.items (numbered_more (λ (s : Slot _). s.number) c.loop-shard.slots.items c.new-in-loop-shard.result c.loop-shard.shard (omega (arith, c.loop-shard.slots.ok, v.0)) number v.2),
    )
