use Rattle.std.proofs.Common.{◌≡◌, ◌∙◌, ◌++◌, refl, ap, sym, ℕ, List, string_bytes, slice_get, option_map}
use Rattle.saga_draw.specs.Drawings.{node_at, state_in}
use Rattle.saga_draw.specs.Lines.{node_line}
use Rattle.saga_draw.specs.Marks.{mark_in}
use Rattle.saga_draw.proofs.RangeLemmas.{steps_more}
use Rattle.saga_draw.proofs.drawings.push_nodes.Goals as goal

pub loop-step-preserved : goal.loop-step-preserved
loop-step-preserved c =
    let steps = c.args.definition.now.steps in
    let states = option_map (λ x. x.now) c.args.states in
    let marks = c.args.marks.now in
    let line : ℕ → List ℕ = λ s. node_at (slice_get steps s) (state_in states s) (mark_in marks s) in
    let step = c.loop-step.step in
    let before = string_bytes c.loop-step.text in
    let here : line step ≡ node_line c.step.result.now c.state_of-state.result c.of_step.result =
    rw (c.step.ensures, c.state_of-state.ensures, c.of_step.ensures) refl in
    let pushed : string_bytes c.push_node.new.text ≡ before ++ line step =
    c.in_ok-push_node.ensures ∙ ap (λ t. before ++ t) (sym here) in
    pushed ∙ (ap (λ t. t ++ line step) c.loop-step.invariant ∙ steps_more line (string_bytes c.args.text.now) step)
