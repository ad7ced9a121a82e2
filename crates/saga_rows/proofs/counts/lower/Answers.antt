use Rattle.std.proofs.Common.{◌<◌, length, arith}
use Rattle.saga_rows.proofs.RowLemmas.{occurs_more}
use Rattle.saga_rows.proofs.counts.lower.Goals as goal

pub overflow_sub-counts : goal.overflow_sub-counts
overflow_sub-counts c =
    let lt : c.loop-s.s-index < length c.args.steps.now = omega arith in
    let known = c.requires.known c.loop-s.s-index 0 lt in
    omega (arith, c.loop-s.invariant _ known, c.requires.enough _ known, occurs_more c.args.steps.now c.loop-s.s-index lt)
