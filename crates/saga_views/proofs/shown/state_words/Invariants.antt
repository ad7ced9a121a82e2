use Rattle.std.proofs.Common.{◌≡◌, map}
use Rattle.saga_views.specs.Shown.{states_below}
use Rattle.saga_views.proofs.shown.state_words.Given as goal

abbrev pub invariant-loop-step : goal.invariant-loop-step
invariant-loop-step l = map (λ w. w.now) l.words.items ≡ states_below l.saga.changes l.step
