use Rattle.std.proofs.Common.{map, take}
use Rattle.saga_texts.specs.Shelves.{AreDefinitions}
use Rattle.saga_texts.proofs.shelves.read_shelf.Given as goal

abbrev pub invariant-loop-place : goal.invariant-loop-place
invariant-loop-place l = AreDefinitions (take l.place (map (λ t. t.now) l.texts)) l.shelf.items
