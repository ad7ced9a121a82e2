use Rattle.std.proofs.Common.{arith}
use Rattle.saga_closure.proofs.BitLemmas.{joined_two_words}
use Rattle.saga_closure.proofs.bits.add_both.Goals as goal

pub returns : goal.returns
returns c = joined_two_words c.args.words.now c.args.one.now c.args.two.now c.loop-place.words c.loop-place.invariant.sized c.requires.one c.requires.two (λ k lt. c.loop-place.invariant.front k (omega arith))
