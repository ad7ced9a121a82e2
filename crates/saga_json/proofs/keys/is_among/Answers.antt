use Rattle.std.proofs.Common.{◌∙◌}
use Rattle.std.specs.Str.{bytes_eq}
use Rattle.saga_json.proofs.KeyLemmas.{list_any-map}
use Rattle.saga_json.proofs.keys.is_among.Goals as goal

pub returns : goal.returns
returns c = c.contains.ensures.value ∙ list_any-map (λ k. bytes_eq k c.args.key.now) (λ k. k.now) c.args.keys.now
