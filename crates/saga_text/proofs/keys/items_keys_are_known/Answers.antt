use Rattle.std.proofs.Common.{rules, tests}
use Rattle.std.proofs.lemmas.Iterator.{YieldsList-from_slice}
use Rattle.std.proofs.lemmas.Iterator.Search.{all_from_yields_List}
use Rattle.std.proofs.lemmas.List.Folds.{list_all-map}
use Rattle.toml.specs.View.{view}
use Rattle.saga_text.specs.Format.{passes, has_step_keys}
use Rattle.saga_text.proofs.keys.items_keys_are_known.Goals as goal

pub returns : goal.returns
returns c =
    rw (list_all-map (passes (has_step_keys c.args.format)) view c.args.items.now)
    (all_from_yields_List (λ item. passes (has_step_keys c.args.format) (view item)) _ _ _ c.all.ensures.ran (YieldsList-from_slice c.args.items.now c.iter.ensures.rest) (λ x b q k. search (rules, tests)))
