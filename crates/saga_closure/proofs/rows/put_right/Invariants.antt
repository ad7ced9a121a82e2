use Rattle.saga_closure.specs.Nets.{terms_in}
use Rattle.saga_closure.specs.Rows.{AreRowsOff}
use Rattle.saga_closure.proofs.rows.put_right.Given as goal

abbrev pub invariant-loop-over : goal.invariant-loop-over
invariant-loop-over l = AreRowsOff (terms_in l.net) l.on l.path l.over-index l.rows
