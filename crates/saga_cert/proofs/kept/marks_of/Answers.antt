use Rattle.std.proofs.Common.{◌≡◌, take, arith}
use Rattle.std.proofs.lemmas.List.{take_all}
use Rattle.saga_cert.proofs.KeptLemmas.{Marked-all}
use Rattle.saga_cert.proofs.kept.marks_of.Goals as goal

pub returns : goal.returns
returns c =
    let whole : take c.loop-number.number-index c.args.numbers.now ≡ c.args.numbers.now = take_all c.loop-number.number-index c.args.numbers.now (omega arith) in
    Marked-all c.args.count c.args.numbers.now c.loop-number.marks.items (rw whole at c.loop-number.invariant)
