use Rattle.std.proofs.Common.{arith}
use Rattle.saga_closure.proofs.BitLemmas.{joined_words}
use Rattle.saga_closure.proofs.bits.add_all.Goals as goal

pub returns : goal.returns
returns c = joined_words c.args.words.now c.args.more.now c.loop-place.words c.loop-place.invariant.sized (λ k lt. c.loop-place.invariant.front k (omega arith)) (λ k past. c.loop-place.invariant.rest k (omega arith))
