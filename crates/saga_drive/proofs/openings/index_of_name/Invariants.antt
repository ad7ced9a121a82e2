use Rattle.std.proofs.Common.{ℕ, ◌<◌}
use Rattle.saga_drive.specs.Openings.{HasName}
use Rattle.saga_drive.proofs.openings.index_of_name.Given as goal

abbrev pub invariant-loop-index : goal.invariant-loop-index
invariant-loop-index l = (j : ℕ) → j < l.index → HasName l.shelf l.name j → ⊥
