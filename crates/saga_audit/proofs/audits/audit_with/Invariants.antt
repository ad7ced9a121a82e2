use Rattle.std.proofs.Common.{IfOk}
use Rattle.std.specs.List.{AllZip, range_with_len}
use Rattle.saga_audit.specs.Groups.{Finds, is_in}
use Rattle.saga_audit.specs.Joins.{is_below}
use Rattle.saga_audit.proofs.audits.audit_with.Given as goal

abbrev pub invariant-loop-group : goal.invariant-loop-group
invariant-loop-group g l =
    Finds l.shelf (is_below l.workers l.group) l.events l.found
    × AllZip (λ i r. IfOk r (Finds l.shelf (is_in l.workers i) l.events)) (range_with_len 0 l.workers) l.all.items
