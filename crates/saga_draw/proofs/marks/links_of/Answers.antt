use Rattle.std.proofs.Common.{◌∙◌, ℕ, List}
use Rattle.saga_draw.proofs.MarkLemmas.{links_more}
use Rattle.saga_draw.proofs.marks.links_of.Goals as goal

pub loop-place-preserved : goal.loop-place-preserved
loop-place-preserved c s o =
    let chain : List ℕ = c.args.chain.now in
    c.in_ok-insert.ensures.updates.0 (s, o) ∙ links_more chain c.loop-place.place s o _ (c.loop-place.invariant s o)
