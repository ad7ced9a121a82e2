use Rattle.std.proofs.Common.{◌∙◌, ◌++◌, [], ap, ℕ, List}
use Rattle.saga_history.specs.Turns.{in_goal}
use Rattle.saga_views.proofs.RangeLemmas.{flat_more}
use Rattle.saga_views.specs.Shown.{number_if}
use Rattle.saga_views.proofs.shown.kept_numbers.Goals as goal

pub loop-step-preserved : goal.loop-step-preserved
loop-step-preserved c =
    let number : ℕ → List (List ℕ) = λ s. number_if (in_goal c.args.saga.now.changes s) s in
    (rw c.in_goal.ensures at c.in_ok-push_number.ensures)
    ∙ (ap (λ t. t ++ number c.loop-step.step) c.loop-step.invariant ∙ flat_more number [] c.loop-step.step)
