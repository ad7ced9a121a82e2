use Rattle.std.proofs.Common.{◌≡◌, ◌<◌, ◌≤◌, length, ap, arith}
use Rattle.saga_order.proofs.BitLemmas.{joined_words}
use Rattle.saga_order.proofs.step_sets.StepSet.add_all.Goals as goal

pub returns : goal.returns
returns c =
    let size : length c.deref-word-items.result.now ≡ length c.more.inside.words.items = ap length c.deref-word-items.ensures.value in
    rw (← c.self.view_is, ← c.more.view_is)
    (joined_words c.self.inside.words.items c.more.inside.words.items c.loop-place.self-inside.words.items c.loop-place.invariant.sized
    (λ k lt. let passed : k < c.loop-place.place = omega arith in rw c.more.view_is (c.loop-place.invariant.front k passed))
    (λ k past. let left : c.loop-place.place ≤ k = omega arith in c.loop-place.invariant.rest k left))
