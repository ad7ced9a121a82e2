use Rattle.saga_rows.proofs.BitSetLemmas.{marks_long}
use Rattle.saga_rows.proofs.bit_sets.BitSet.first.Goals as goal

pub returns : goal.returns
returns c =
    rw (← c.self.view_is, marks_long c.self.inside.words.items c.self.inside.len) (rw c.deref.ensures.value at c.least.ensures c.self.inside.len c.self.invariant)
