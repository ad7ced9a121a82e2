-- Look-ups in the table of a script.
use Rattle.std.specs.Prelude.{ℕ, ◌+◌, ◌*◌, List, Bool, Option, Some, None, String, slice_index_or, nat_eq, if◌then◌else◌}
use Rattle.std.specs.Global.{Global}
use Rattle.std.specs.HashMap.{HashMap, get, get_by_text}
use Rattle.saga_script.specs.declared.endings.Ending.{Ending}
use Rattle.saga_script.specs.declared.endings.Ending.TheVariants.{Done}
use Rattle.saga_script.specs.declared.scripts.Script.{Script}
use Rattle.saga_script.specs.Endings.{place_of}
use Rattle.saga_script.specs.Questions.{Question}

-- the table key for an action of a saga
abbrev pub key_of : ℕ → Bool → ℕ
key_of saga is_undo = saga * 2 + (if is_undo then 1 else 0)

abbrev pub ending_of_row : ℕ → Option (List Ending) → Ending
ending_of_row attempt None = Done
ending_of_row attempt (Some row) = slice_index_or row (place_of attempt) Done

abbrev pub ending_of_rows : {S : Type 0} → ℕ → ℕ → Option (HashMap ℕ (List Ending) S) → Ending
ending_of_rows key attempt None = Done
ending_of_rows key attempt (Some rows) = ending_of_row attempt (get nat_eq rows key)

-- the ending that a table has for a question
unfoldable pub ending_told : {S : Type 0} → HashMap (String Global) (HashMap ℕ (List Ending) S) S → Question → Ending
ending_told table q = ending_of_rows (key_of q.saga q.is_undo) q.attempt (get_by_text table q.name)

-- the ending that a script has for a question
abbrev pub ending_in : Script → Question → Ending
ending_in script q = ending_told script.table q
