use Rattle.std.proofs.Common.{map, take}
use Rattle.saga_tool.specs.Program.{AreGiven}
use Rattle.saga_tool.proofs.files.texts_of.Given as goal

abbrev pub invariant-loop-path : goal.invariant-loop-path
invariant-loop-path g l =
    AreGiven (g.W.Outside.world l.outside).file_gives l.limit (take l.path-index (map (λ s. s.now) l.paths)) (map (λ t. t.items) l.texts.items)
