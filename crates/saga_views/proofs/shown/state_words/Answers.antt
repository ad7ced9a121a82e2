use Rattle.std.proofs.Common.{◌≡◌, ◌∙◌, ◌++◌, ◌∷◌, [], ap, ℕ, List, map}
use Rattle.std.proofs.lemmas.List.{map-append}
use Rattle.saga_case.specs.States.{word_of}
use Rattle.saga_history.specs.States.{state}
use Rattle.saga_views.proofs.RangeLemmas.{map_more}
use Rattle.saga_views.proofs.shown.state_words.Goals as goal

pub loop-step-preserved : goal.loop-step-preserved
loop-step-preserved c =
    let word : ℕ → List ℕ = λ s. word_of (state c.args.saga.now.changes s) in
    let here : c.word.result.now ≡ word c.loop-step.step = c.word.ensures ∙ ap word_of c.state.ensures in
    ap (map (λ w. w.now)) c.in_ok-push.ensures.items
    ∙ (map-append (λ w. w.now) c.loop-step.words.items (c.word.result ∷ [])
    ∙ (ap (λ t. t ++ c.word.result.now ∷ []) c.loop-step.invariant
    ∙ (rw here (map_more word c.loop-step.step))))
