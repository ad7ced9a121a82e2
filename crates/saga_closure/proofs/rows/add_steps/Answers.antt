use Rattle.std.proofs.Common.{arith}
use Rattle.saga_closure.proofs.RowLemmas.{added_none, added_more}
use Rattle.saga_closure.proofs.rows.add_steps.Goals as goal

pub loop-step-init : goal.loop-step-init
loop-step-init c = added_none c.args.words.now c.args.at c.args.steps.now

pub overflow_add-at : goal.overflow_add-at
overflow_add-at c = omega (arith, c.requires.within c.loop-step.step-index c.loop-step-test.true, c.requires.few)

pub put-requires : goal.put-requires
put-requires c = omega (arith, c.requires.within c.loop-step.step-index c.loop-step-test.true, c.loop-step.invariant.sized)

pub loop-step-preserved : goal.loop-step-preserved
loop-step-preserved c = added_more c.args.words.now c.loop-step.words c.put.new.words c.args.at c.args.steps.now c.loop-step.step-index c.loop-step.invariant c.put.ensures
