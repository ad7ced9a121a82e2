-- The meaning of the text of a script.
use Rattle.std.specs.Prelude.{ℕ, ◌+◌, ◌≡◌, List, [], ◌∷◌, length, nat_lt, Option, Some, None, Result, Ok, Err, if◌then◌else◌}
use Rattle.saga_bytes.specs.Lines.{lines_of}
use Rattle.saga_script.specs.declared.faults.ScriptFault.{ScriptFault}
use Rattle.saga_script.specs.declared.faults.ScriptFault.TheVariants.{TooLong, BadLine, OutOfMemory}
use Rattle.saga_script.specs.Limits.{max_script}
use Rattle.saga_script.specs.declared.scripts.Script.{Script}
use Rattle.saga_script.specs.Statements.{Statement, statement_of}
use Rattle.saga_script.specs.Questions.{Question, ending_of}
use Rattle.saga_script.specs.Table.{ending_in}

-- a statement before the statements of later lines; a line without a statement is the fault
abbrev pub put_before : ℕ → Option Statement → Result (List Statement) ScriptFault → Result (List Statement) ScriptFault
put_before number None rest = Err (BadLine number)
put_before number (Some s) (Ok statements) = Ok (s ∷ statements)
put_before number (Some s) (Err fault) = Err fault

-- the statements of lines, the first of which has this number: one for each line that is not empty; or the first bad
-- line
abbrev pub statements_from : ℕ → List (List ℕ) → Result (List Statement) ScriptFault
statements_from number [] = Ok []
statements_from number ([] ∷ lines) = statements_from (number + 1) lines
statements_from number ((byte ∷ line) ∷ lines) =
    put_before number (statement_of (byte ∷ line)) (statements_from (number + 1) lines)

-- the statements of a text, or the first fault
abbrev pub statements_of : List ℕ → Result (List Statement) ScriptFault
statements_of text = if nat_lt max_script (length text) then Err TooLong else statements_from 1 (lines_of text)

-- the script answers each question by the last statement that names it
abbrev pub Tells : Script → List Statement → Type 0
Tells script statements = (q : Question) → ending_in script q ≡ ending_of q statements

-- the fault is that of the reading, or lack of memory
abbrev pub Fails : {A : Type 0} → ScriptFault → Result A ScriptFault → Type 0
Fails OutOfMemory reading = Unit {0}
Fails fault reading = reading ≡ Err fault

-- a script that agrees with the statements of the text, or otherwise the first fault
abbrev pub ReadsScript : List ℕ → Result Script ScriptFault → Type 0
ReadsScript text (Ok script) = (statements : List Statement) × (statements_of text ≡ Ok statements) × Tells script statements
ReadsScript text (Err fault) = Fails fault (statements_of text)
