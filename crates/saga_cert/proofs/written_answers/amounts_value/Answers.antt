use Rattle.std.proofs.Common.{◌≡◌, ◌∙◌, ap, arith, take}
use Rattle.std.proofs.lemmas.List.{take_all}
use Rattle.serde_json.proofs.Views.{view-Array}
use Rattle.serde_json.specs.Data.{array}
use Rattle.saga_json.specs.Trees.{items_from}
use Rattle.saga_json.proofs.TreeLemmas.{items_from-view}
use Rattle.saga_cert.proofs.written_answers.amounts_value.Goals as goal

pub returns : goal.returns
returns c =
    let whole : take c.loop-place.place c.args.amounts.now ≡ c.args.amounts.now = take_all c.loop-place.place c.args.amounts.now (omega arith) in
    view-Array c.loop-place.list ∙ ap array (items_from-view c.loop-place.list.items ∙ ap items_from (rw whole at c.loop-place.invariant))
