use Rattle.std.proofs.Common.{◌≡◌, ◌∙◌, rules, tests}
use Rattle.std.proofs.lemmas.Iterator.{YieldsList-from_slice}
use Rattle.std.proofs.lemmas.Iterator.Search.{all_from_yields_List}
use Rattle.std.specs.List.{list_all}
use Rattle.serde_json.specs.View.{view}
use Rattle.saga_json.specs.Keys.{has_key}
use Rattle.saga_json.proofs.KeyLemmas.{list_all-map}
use Rattle.saga_json.proofs.keys.has_each.Goals as goal

pub returns : goal.returns
returns c =
    let value = view c.args.value.now in
    let one_by_one : c.all.result ≡ list_all (λ k. has_key k.now value) c.args.must.now = all_from_yields_List (λ k. has_key k.now value) _ _ _ c.all.ensures.ran (YieldsList-from_slice c.args.must.now c.iter.ensures.rest) (λ x b q k. search (rules, tests)) in
    one_by_one ∙ list_all-map (λ k. has_key k value) (λ k. k.now) c.args.must.now
