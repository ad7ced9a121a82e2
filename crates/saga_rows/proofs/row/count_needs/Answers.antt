use Rattle.std.proofs.Common.{arith}
use Rattle.saga_rows.proofs.RowLemmas.{few_of}
use Rattle.saga_rows.proofs.row.count_needs.Goals as goal

pub overflow_cast-needs_of : goal.overflow_cast-needs_of
overflow_cast-needs_of c = rw c.needs_of.ensures.value (omega (arith, few_of c.args.definition.now c.loop-s.s c.steps-s-end.ensures.sound))
