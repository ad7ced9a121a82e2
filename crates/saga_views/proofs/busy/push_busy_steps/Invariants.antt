use Rattle.std.proofs.Common.{◌≡◌, ◌++◌, map, string_bytes}
use Rattle.saga_views.specs.Busy.{busy_below}
use Rattle.saga_views.proofs.busy.push_busy_steps.Given as goal

abbrev pub invariant-loop-step : goal.invariant-loop-step
invariant-loop-step l = map string_bytes l.texts.items ≡ map string_bytes l.initial.texts.items ++ busy_below l.saga l.step
