use Rattle.std.proofs.Common.{◌≡◌, map, string_bytes}
use Rattle.saga_views.specs.Shown.{kept_below}
use Rattle.saga_views.proofs.shown.kept_numbers.Given as goal

abbrev pub invariant-loop-step : goal.invariant-loop-step
invariant-loop-step l = map string_bytes l.numbers.items ≡ kept_below l.saga.changes l.step
