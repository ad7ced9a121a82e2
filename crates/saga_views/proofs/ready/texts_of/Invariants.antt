use Rattle.std.proofs.Common.{◌≡◌, map, string_bytes, take}
use Rattle.saga_views.specs.Ready.{text_of}
use Rattle.saga_views.proofs.ready.texts_of.Given as goal

abbrev pub invariant-loop-task : goal.invariant-loop-task
invariant-loop-task l = map string_bytes l.texts.items ≡ map (text_of l.book) (take l.task-index l.tasks)
