use Rattle.std.proofs.Common.{◌≡◌, ◌++◌, length, map}
use Rattle.saga_texts.specs.Beside.{definitions_file}
use Rattle.saga_texts.proofs.beside.definitions_of.Given as goal

abbrev pub invariant-loop-left : goal.invariant-loop-left
invariant-loop-left l = l.file ≡ definitions_file (map (λ t. t.now) l.texts.items) ++ l.left

abbrev pub decreases-loop-left : goal.decreases-loop-left
decreases-loop-left l = length l.left
