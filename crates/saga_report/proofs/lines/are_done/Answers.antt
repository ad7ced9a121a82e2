use Rattle.std.proofs.Common.{sym, ℕ}
use Rattle.std.specs.Prelude.{Bool}
use Rattle.saga_report.specs.Lines.{is_done}
use Rattle.saga_report.specs.Views.{story_in}
use Rattle.saga_report.specs.declared.sagas.Saga.{Saga}
use Rattle.saga_report.proofs.RangeLemmas.{all_more, all_fails}
use Rattle.saga_report.proofs.lines.are_done.Goals as goal

test : Saga → ℕ → Bool
test saga s = is_done ((story_in saga).goal s) ((story_in saga).state s)

pub returns-then-not-is_done : goal.returns-then-not-is_done
unfolding test
returns-then-not-is_done c =
    sym (all_fails (test c.args.saga.now) c.args.count c.loop-step.step c.loop-step-test.true (sym c.if-not-is_done.ensures))

pub loop-step-preserved : goal.loop-step-preserved
unfolding test
loop-step-preserved c = all_more (test c.args.saga.now) c.loop-step.step c.loop-step.invariant (sym c.if-not-is_done.ensures)
