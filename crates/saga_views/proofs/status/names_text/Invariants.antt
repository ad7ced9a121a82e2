use Rattle.std.proofs.Common.{◌≡◌, map, string_bytes, take}
use Rattle.saga_def.specs.Contents.{Contents}
use Rattle.saga_views.specs.Status.{quoted}
use Rattle.saga_views.proofs.status.names_text.Given as goal

abbrev pub invariant-loop-definition : goal.invariant-loop-definition
invariant-loop-definition l = map string_bytes l.names.items ≡ map (λ (d : Contents). quoted d.name) (take l.definition-index l.shelf)
