use Rattle.std.proofs.Common.{refl}
use Rattle.saga_closure.proofs.BitLemmas.{word_put}
use Rattle.saga_closure.proofs.bits.put.Goals as goal

pub returns : goal.returns
returns c = word_put c.args.words.now c.args.i _ c.put_bit-word.result c.args.on c.requires refl c.put_bit-word.ensures.put
