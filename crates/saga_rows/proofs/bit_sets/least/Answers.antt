use Rattle.std.proofs.Common.{◌<◌, ◌^◌, arith, refl, w64}
use Rattle.std.specs.Int.{trailing_zeros}
use Rattle.saga_rows.proofs.BitSetLemmas.{none_least, least_word, is_least}
use Rattle.saga_rows.proofs.bit_sets.least.Goals as goal

pub returns-then-summary-eq0 : goal.returns-then-summary-eq0
returns-then-summary-eq0 c = λ len are. none_least c.args.words.now c.args.summary len c.if-summary-eq0.true are

pub returns-then-w-words : goal.returns-then-w-words
returns-then-w-words c = λ len are.
    let some : 0 < c.args.summary = omega arith in
    let small : c.args.summary < 2 ^ 64 = omega arith in
    absurd (omega (arith, least_word c.args.words.now c.args.summary len some small are, c.if-w-words.true))

pub returns : goal.returns
returns c = λ len are.
    let some : 0 < c.args.summary = omega arith in
    let small : c.args.summary < 2 ^ 64 = omega arith in
    is_least c.args.words.now c.args.summary len (trailing_zeros w64 c.args.summary) some small are refl (omega (arith, c.type_inv.words (trailing_zeros w64 c.args.summary))) _ refl
