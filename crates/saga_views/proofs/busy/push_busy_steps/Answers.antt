use Rattle.std.proofs.Common.{◌∙◌, ◌++◌, ap, ℕ, List, map, string_bytes}
use Rattle.saga_history.specs.States.{state}
use Rattle.saga_views.specs.Busy.{busy_in}
use Rattle.saga_views.proofs.RangeLemmas.{flat_more}
use Rattle.saga_views.proofs.busy.push_busy_steps.Goals as goal

pub loop-step-preserved : goal.loop-step-preserved
loop-step-preserved c =
    let saga = c.args.saga.now in
    let task : ℕ → List (List ℕ) = λ s. busy_in (state saga.changes s) saga s in
    c.in_ok-push_busy_step.ensures
    ∙ (ap (λ t. t ++ task c.loop-step.step) c.loop-step.invariant ∙ flat_more task (map string_bytes c.args.texts.now.items) c.loop-step.step)
