use Rattle.std.proofs.Common.{arith, ◌∙◌, ◌++◌, codes, length}
use Rattle.saga_texts.specs.Lines.{line_feed}
use Rattle.saga_texts.proofs.BesideLemmas.{number_in, text_fits}
use Rattle.saga_texts.proofs.beside.count_at.Goals as goal

pub returns : goal.returns
returns c text more is =
    c.number_at.ensures (length text) (codes "bytes" ++ (line_feed ++ (text ++ (line_feed ++ more)))) (omega (arith, text_fits c.args.file.now text more is))
    (c.split_at.ensures.back ∙ number_in c.args.file.now text more is)
