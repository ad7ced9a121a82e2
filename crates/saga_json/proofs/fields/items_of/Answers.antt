use Rattle.std.proofs.Common.{◌≡◌, ◌∙◌, ap}
use Rattle.serde_json.proofs.Views.{view-Array}
use Rattle.serde_json.specs.Data.{array}
use Rattle.serde_json.specs.View.{view, items_view}
use Rattle.saga_json.proofs.TreeLemmas.{list_of-view}
use Rattle.saga_json.proofs.fields.items_of.Goals as goal

pub returns-in-Array : goal.returns-in-Array
returns-in-Array c =
    let list : view c.args.value.now ≡ array (items_view c.in-Array.items.items) = ap view c.in-Array.is ∙ view-Array c.in-Array.items in
    rw (list, c.as_slice.ensures.value, list_of-view c.in-Array.items.items)
