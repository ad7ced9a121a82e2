use Rattle.std.proofs.Common.{◌≡◌, take}
use Rattle.saga_audit.specs.Sagas.{new_rows}
use Rattle.saga_audit.proofs.sagas.new_rows.Given as goal

abbrev pub invariant-loop-definition : goal.invariant-loop-definition
invariant-loop-definition l = l.rows.items ≡ new_rows (take l.definition-index l.shelf)
