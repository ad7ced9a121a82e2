use Rattle.saga_rows.proofs.BitSetLemmas.{all_put, mark_is}
use Rattle.saga_rows.proofs.bit_sets.put.Goals as goal

pub returns : goal.returns
returns c = λ len below are.
    all_put c.args.words.now c.args.summary _ len c.args.i c.put_bit-word.result c.args.on _ below c.requires.within c.requires.few c.put_bit-word.ensures c.put_bit.ensures (mark_is c.put_bit-word.result) are
