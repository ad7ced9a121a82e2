use Rattle.std.proofs.Common.{◌≡◌, map, take}
use Rattle.saga_texts.specs.Beside.{definitions_file}
use Rattle.saga_texts.proofs.beside.definitions_file.Given as goal

abbrev pub invariant-loop-text : goal.invariant-loop-text
invariant-loop-text l = l.file.items ≡ definitions_file (map (λ t. t.now) (take l.text-index l.texts))
