use Rattle.std.proofs.Common.{◌≡◌, ◌+◌, ◌/◌, replicate, rules}
use Rattle.saga_rows.proofs.BitSetLemmas.{bits_init}
use Rattle.saga_rows.proofs.bit_sets.BitSet.new.Goals as goal

pub returns : goal.returns
returns c =
    let is : c.in_ok-words.words.items ≡ replicate (c.args.len / 64 + 1) 0 = search rules in
    (bits_init c.in_ok-words.words.items c.args.len is c.requires).1
