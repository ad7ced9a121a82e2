use Rattle.std.proofs.Common.{◌≡◌, ◌∙◌, ◌++◌, ap, sym, ℕ, List, string_bytes, slice_get}
use Rattle.saga_report.specs.Lines.{step_line, name_of}
use Rattle.saga_report.specs.Views.{story_in}
use Rattle.saga_report.proofs.RangeLemmas.{steps_more}
use Rattle.saga_report.proofs.lines.push_steps.Goals as goal

pub loop-step-preserved : goal.loop-step-preserved
loop-step-preserved c =
    let story = story_in c.args.saga.now in
    let line : ℕ → List ℕ = λ s. step_line s (story.state s) (name_of (slice_get c.args.definition.now.steps s)) in
    let step = c.loop-step.step in
    let before = string_bytes c.loop-step.text in
    let name : name_of (slice_get c.args.definition.now.steps step) ≡ c.as_str-name.result.now = ap name_of c.step.ensures ∙ sym c.as_str-name.ensures in
    let pushed : string_bytes c.push_step.new.text ≡ string_bytes c.loop-step.text ++ line step =
    c.in_ok-push_step.ensures
    ∙ (ap (λ x. before ++ step_line step x c.as_str-name.result.now) c.state_of.ensures
    ∙ ap (λ n. before ++ step_line step (story.state step) n) (sym name)) in
    pushed ∙ (ap (λ t. t ++ line step) c.loop-step.invariant ∙ steps_more line (string_bytes c.args.text.now) step)
