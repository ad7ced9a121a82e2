use Rattle.std.proofs.Common.{◌≡◌, map, string_bytes}
use Rattle.saga_views.specs.Busy.{busy_up_to}
use Rattle.saga_views.proofs.busy.busy_texts.Given as goal

abbrev pub invariant-loop-place : goal.invariant-loop-place
invariant-loop-place l = map string_bytes l.texts.items ≡ busy_up_to l.book l.place
