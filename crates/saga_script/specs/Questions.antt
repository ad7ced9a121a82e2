-- Questions to a script, and the last statement that answers them.
use Rattle.std.specs.Prelude.{ℕ, ◌==◌, List, Bool, true, false, ◌&&◌, not, Option, Some, None}
use Rattle.std.specs.List.{filter, last_or}
use Rattle.std.specs.Str.{bytes_eq}
use Rattle.saga_script.specs.declared.endings.Ending.{Ending}
use Rattle.saga_script.specs.declared.endings.Ending.TheVariants.{Done}
use Rattle.saga_script.specs.Endings.{is_attempt}
use Rattle.saga_script.specs.Statements.{Statement}

-- how an attempt at an action of a step of a saga ends
pub record Question : Type 0 where
  pub saga : ℕ
  pub name : List ℕ
  pub is_undo : Bool
  pub attempt : ℕ

abbrev pub question : ℕ → List ℕ → Bool → ℕ → Question
question saga name is_undo attempt = record { saga = saga; name = name; is_undo = is_undo; attempt = attempt }

abbrev pub is_same : Bool → Bool → Bool
is_same true b = b
is_same false b = not b

-- the statement names saga, step and action, and this attempt or none
abbrev pub names : Question → Statement → Bool
names q s =
    bytes_eq s.name q.name && (((s.saga == q.saga) && is_same s.is_undo q.is_undo) && is_attempt s.attempt q.attempt)

-- done if there is no statement
abbrev pub ending_or_done : Option Statement → Ending
ending_or_done None = Done
ending_or_done (Some s) = s.ending

-- the ending of the last statement that names the question
abbrev pub ending_of : Question → List Statement → Ending
ending_of q statements = ending_or_done (last_or None (filter (names q) statements))
