use Rattle.std.proofs.Common.{arith}
use Rattle.saga_closure.proofs.RowLemmas.{union_two}
use Rattle.saga_closure.proofs.rows.steps_after.Goals as goal

pub loop-next-preserved : goal.loop-next-preserved
loop-next-preserved c = record {
  begun = omega (arith, c.loop-next.invariant.begun);
  within = omega (arith, c.loop-next-test.true);
  union = union_two c.args.rows.now c.args.order.now c.args.first c.loop-next.next c.loop-next.set c.row_of.result.now c.row_of-in-loop-next.result.now c.add_both.new.words c.loop-next.invariant.begun c.loop-next.invariant.union c.row_of.ensures c.row_of-in-loop-next.ensures c.add_both.ensures;
}
