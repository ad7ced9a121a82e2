use Rattle.std.proofs.Common.{take}
use Rattle.saga_cert.proofs.KeptLemmas.{Marked}
use Rattle.saga_cert.proofs.kept.marks_of.Given as goal

abbrev pub invariant-loop-number : goal.invariant-loop-number
invariant-loop-number l = Marked l.count (take l.number-index l.numbers) l.marks.items
