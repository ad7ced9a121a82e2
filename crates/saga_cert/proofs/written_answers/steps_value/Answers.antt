use Rattle.std.proofs.Common.{◌≡◌, ◌∙◌, ap, arith, take}
use Rattle.std.proofs.lemmas.List.{take_all}
use Rattle.serde_json.proofs.Views.{view-Array}
use Rattle.serde_json.specs.Data.{array}
use Rattle.saga_json.specs.Trees.{items_from}
use Rattle.saga_json.proofs.TreeLemmas.{items_from-view}
use Rattle.saga_cert.proofs.written_answers.steps_value.Goals as goal

pub returns : goal.returns
returns c =
    let whole : take c.loop-step.step-index c.args.steps.now ≡ c.args.steps.now = take_all c.loop-step.step-index c.args.steps.now (omega arith) in
    view-Array c.loop-step.list ∙ ap array (items_from-view c.loop-step.list.items ∙ ap items_from (rw whole at c.loop-step.invariant))
