use Rattle.std.proofs.Common.{◌≡◌, map, take}
use Rattle.saga_tool.proofs.files.owned.Given as goal

abbrev pub invariant-loop-text : goal.invariant-loop-text
invariant-loop-text l = map (λ t. t.items) l.owned.items ≡ map (λ t. t.now) (take l.text-index l.texts)
