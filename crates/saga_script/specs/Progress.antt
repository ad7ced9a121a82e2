-- The answer of lines to one question, line by line.
use Rattle.std.specs.Prelude.{ℕ, ◌+◌, List, [], ◌∷◌, Option, Some, None, Result, Ok, Err, if◌then◌else◌}
use Rattle.saga_bytes.specs.Lines.{lines_of}
use Rattle.saga_script.specs.declared.endings.Ending.{Ending}
use Rattle.saga_script.specs.declared.endings.Ending.TheVariants.{Done}
use Rattle.saga_script.specs.declared.faults.ScriptFault.{ScriptFault}
use Rattle.saga_script.specs.declared.faults.ScriptFault.TheVariants.{BadLine}
use Rattle.saga_script.specs.Statements.{Statement, statement_of}
use Rattle.saga_script.specs.Questions.{Question, names}
pub use Rattle.saga_script.specs.Scripts.{Fails}

-- the answer after one more statement
abbrev pub told_by : Question → Ending → Statement → Ending
told_by q before s = if names q s then s.ending else before

abbrev pub on_line : ℕ → Option Statement → (Statement → Result Ending ScriptFault) → Result Ending ScriptFault
on_line number None next = Err (BadLine number)
on_line number (Some s) next = next s

abbrev pub told_after : Question → Ending → ℕ → List (List ℕ) → Result Ending ScriptFault
told_after q before number [] = Ok before
told_after q before number ([] ∷ lines) = told_after q before (number + 1) lines
told_after q before number ((byte ∷ line) ∷ lines) =
    on_line number (statement_of (byte ∷ line)) (λ s. told_after q (told_by q before s) (number + 1) lines)

-- the answer after the lines of a text
abbrev pub told_from : Question → List ℕ → Result Ending ScriptFault
told_from q text = told_after q Done 1 (lines_of text)
