use Rattle.saga_core.proofs.BookLemmas.{at_stride}
use Rattle.saga_core.proofs.numbers.index_of.Goals as goal

pub returns-then-saga-first-ne0 : goal.returns-then-saga-first-ne0
returns-then-saga-first-ne0 c = λ k lt is. c.if-saga-first-ne0.true (at_stride c.args.first c.args.stride c.args.saga k is)
