use Rattle.std.proofs.Common.{◌≡◌, ◌+◌, ◌≤◌, length}
use Rattle.saga_bytes.specs.Lines.{lines_of}
use Rattle.saga_script.specs.Questions.{Question}
use Rattle.saga_script.specs.Table.{ending_told}
use Rattle.saga_script.specs.Progress.{told_after, told_from}
use Rattle.saga_script.proofs.scripts.Script.of_lines.Given as goal

abbrev pub invariant-loop-line : goal.invariant-loop-line
invariant-loop-line l =
    ((q : Question) → told_after q (ending_told l.script.table q) (l.number + 1) (lines_of l.left) ≡ told_from q l.bytes)
    × (l.number + length l.left ≤ length l.bytes)

abbrev pub decreases-loop-line : goal.decreases-loop-line
decreases-loop-line l = length l.left
