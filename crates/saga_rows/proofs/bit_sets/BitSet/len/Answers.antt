use Rattle.std.proofs.Common.{sym}
use Rattle.saga_rows.proofs.BitSetLemmas.{marks_long}
use Rattle.saga_rows.proofs.bit_sets.BitSet.len.Goals as goal

pub returns : goal.returns
returns c = rw (← c.self.view_is) (sym (marks_long c.self.inside.words.items c.self.inside.len))
