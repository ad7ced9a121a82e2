use Rattle.std.proofs.Common.{◌≡◌, ◌∙◌, ap, arith, take}
use Rattle.std.proofs.lemmas.List.{take_all}
use Rattle.serde_json.proofs.Views.{view-Array}
use Rattle.serde_json.specs.Data.{array}
use Rattle.saga_json.specs.Trees.{items_from}
use Rattle.saga_json.proofs.TreeLemmas.{items_from-view}
use Rattle.saga_cert.proofs.written_cases.states_value.Goals as goal

pub returns : goal.returns
returns c =
    let whole : take c.loop-state.state-index c.args.states.now ≡ c.args.states.now = take_all c.loop-state.state-index c.args.states.now (omega arith) in
    view-Array c.loop-state.list ∙ ap array (items_from-view c.loop-state.list.items ∙ ap items_from (rw whole at c.loop-state.invariant))
