use Rattle.std.proofs.Common.{rules, ◌<◌, List, length, refl, subst, sym}
use Rattle.saga_def.specs.Contents.{Contents}
use Rattle.saga_texts.specs.Limits.{max_long_shelf}
use Rattle.saga_serve.proofs.shelves.welcome_of.Goals as goal

pub returns-in-Ok-read_definition : goal.returns-in-Ok-read_definition
returns-in-Ok-read_definition c book same = record {
  shown = refl;
  definition = c.in-Define.text;
  asks = search rules;
  welcome = record {
    few = subst (λ (l : List Contents). length l < max_long_shelf) (sym same) (search rules);
    reads = search rules;
  };
}
