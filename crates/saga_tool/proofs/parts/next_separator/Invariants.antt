use Rattle.std.proofs.Common.{ℕ, ◌<◌, ◌≤◌}
use Rattle.saga_tool.specs.Parts.{IsSeparator}
use Rattle.saga_tool.proofs.parts.next_separator.Given as goal

abbrev pub invariant-loop-at : goal.invariant-loop-at
invariant-loop-at l = (k : ℕ) → l.from ≤ k → k < l.at → IsSeparator l.input k → ⊥
