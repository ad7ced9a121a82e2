use Rattle.std.proofs.Common.{map, rules, tests}
use Rattle.std.proofs.lemmas.Iterator.Consumers.{YieldsList-from_rest}
use Rattle.std.proofs.lemmas.Iterator.Search.{all_from_yields_List}
use Rattle.std.specs.Map.{keys_of as map_keys_of}
use Rattle.std.specs.Map.Iter.{deref}
use Rattle.std.specs.String.{string_bytes}
use Rattle.saga_json.specs.Keys.{is_known}
use Rattle.saga_json.proofs.TreeLemmas.{list_all_keys-view}
use Rattle.saga_json.proofs.keys.are_known.Goals as goal

pub returns : goal.returns
returns c =
    let test = is_known (map (λ k. k.now) c.args.must.now) (map (λ k. k.now) c.args.may.now) in
    rw (list_all_keys-view test c.args.members.now.entries)
    (all_from_yields_List (λ key. test (string_bytes key)) _ _ _ c.all.ensures.ran (YieldsList-from_rest {shows = deref} (map_keys_of c.args.members.now.entries) c.keys.ensures.rest) (λ x b q k. search (rules, tests)))
