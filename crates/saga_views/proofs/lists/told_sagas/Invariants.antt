use Rattle.std.proofs.Common.{◌≡◌, ◌≤◌, map, string_bytes, length}
use Rattle.saga_views.specs.Lists.{told_up_to}
use Rattle.saga_views.specs.Limits.{most_sagas}
use Rattle.saga_views.proofs.lists.told_sagas.Given as goal

abbrev pub invariant-loop-place : goal.invariant-loop-place
invariant-loop-place l = record {
  told : map string_bytes l.texts.items ≡ told_up_to l.book l.from l.wanted l.phases l.place;
  few : length (map string_bytes l.texts.items) ≤ most_sagas;
}
