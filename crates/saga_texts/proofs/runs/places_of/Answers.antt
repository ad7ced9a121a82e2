use Rattle.std.proofs.Common.{◌∙◌, [], ◌∷◌, ◌++◌, ap, sym}
use Rattle.saga_def.proofs.AdjacencyLemmas.{range_push}
use Rattle.saga_texts.proofs.runs.places_of.Goals as goal

pub loop-place-preserved : goal.loop-place-preserved
loop-place-preserved c =
    let place = c.loop-place.place in
    c.in_ok-push.ensures.items ∙ (ap (λ z. z ++ place ∷ []) c.loop-place.invariant ∙ sym (range_push place))
