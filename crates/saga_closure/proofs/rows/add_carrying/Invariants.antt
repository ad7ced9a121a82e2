use Rattle.saga_closure.specs.Nets.{terms_in}
use Rattle.saga_closure.proofs.RowLemmas.{AreRowsTo}
use Rattle.saga_closure.proofs.rows.add_carrying.Given as goal

abbrev pub invariant-loop-k : goal.invariant-loop-k
invariant-loop-k l = AreRowsTo (terms_in l.residual.net.now) l.residual.on.now l.rows.width l.rows.words.items l.k
