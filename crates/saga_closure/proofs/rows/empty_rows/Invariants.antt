use Rattle.saga_closure.specs.Nets.{terms_in}
use Rattle.saga_closure.proofs.RowLemmas.{AreFilled}
use Rattle.saga_closure.proofs.rows.empty_rows.Given as goal

abbrev pub invariant-loop-v : goal.invariant-loop-v
invariant-loop-v l = AreFilled (terms_in l.net) l.width l.words.items l.v
