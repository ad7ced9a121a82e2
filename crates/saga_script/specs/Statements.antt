-- The statement of a line of a script. Single spaces separate its parts.
use Rattle.std.specs.Prelude.{ℕ, ◌+◌, ◌-◌, ◌*◌, ◌==◌, List, [], ◌∷◌, length, slice_index, Bool, true, false, ◌&&◌, nat_lt, nat_le, Option, Some, None, codes, if◌then◌else◌, option_and_then, option_map}
use Rattle.std.specs.List.{list_all, slice_split}
use Rattle.std.specs.Str.{bytes_eq}
use Rattle.saga_def.specs.Rules.{is_letter, is_name_byte}
use Rattle.saga_def.specs.Limits.{max_name}
use Rattle.saga_script.specs.declared.endings.Ending.{Ending}
use Rattle.saga_script.specs.declared.endings.Ending.TheVariants.{Done, Void, Failed, DoneThenAbort}
use Rattle.saga_script.specs.declared.statements.Statement.{Statement as Declared}

-- how an action of a step of a saga ends: the step's name, whether it is the compensation, and the attempt unless it is
-- each
pub record Statement : Type 0 where
  pub saga : ℕ
  pub name : List ℕ
  pub is_undo : Bool
  pub ending : Ending
  pub attempt : Option ℕ

-- the statement of a line in memory
abbrev pub stated : Declared → Statement
stated s = record { saga = s.saga; name = s.name.now; is_undo = s.is_undo; ending = s.ending; attempt = s.attempt }

abbrev pub is_space : ℕ → Bool
is_space byte = byte == 32

abbrev pub is_digit : ℕ → Bool
is_digit byte = nat_le 48 byte && nat_le byte 57

-- the number that continues with these digits
abbrev pub number_on : ℕ → List ℕ → Option ℕ
number_on n [] = Some n
number_on n (byte ∷ rest) = if is_digit byte then number_on (n * 10 + (byte - 48)) rest else None

-- a saga's number: one to nine digits
unfoldable pub saga_of : List ℕ → Option ℕ
saga_of part = if nat_lt 0 (length part) && nat_lt (length part) 10 then number_on 0 part else None

-- the same test as saga_def's `IsName`
unfoldable pub is_name : List ℕ → Bool
is_name part =
    nat_lt 0 (length part) && (nat_le (length part) max_name
    && (is_letter (slice_index part 0) && list_all is_name_byte part))

abbrev pub name_of : List ℕ → Option (List ℕ)
name_of part = if is_name part then Some part else None

-- `run`, or `undo` for the compensation
abbrev pub action_of : List ℕ → Option Bool
action_of part =
    if bytes_eq part (codes "run") then Some false
    else (if bytes_eq part (codes "undo") then Some true else None)

abbrev pub ending_of_word : List ℕ → Option Ending
ending_of_word part =
    if bytes_eq part (codes "ok") then Some Done
    else (if bytes_eq part (codes "void") then Some Void
    else (if bytes_eq part (codes "fail") then Some Failed
    else (if bytes_eq part (codes "abort") then Some DoneThenAbort else None)))

-- one digit except 0
abbrev pub attempt_of : List ℕ → Option ℕ
attempt_of (byte ∷ []) = if nat_le 49 byte && nat_le byte 57 then Some (byte - 48) else None
attempt_of _ = None

unfoldable pub statement_of_words : List ℕ → List ℕ → List ℕ → List ℕ → Option ℕ → Option Statement
statement_of_words saga name action outcome attempt =
    option_and_then (λ i. option_and_then (λ s. option_and_then (λ u. option_map (λ e.
    record { saga = i; name = s; is_undo = u; ending = e; attempt = attempt })
    (ending_of_word outcome)) (action_of action)) (name_of name)) (saga_of saga)

-- saga, step, action and outcome, and then optionally an attempt
abbrev pub statement_of_parts : List (List ℕ) → Option Statement
statement_of_parts (saga ∷ name ∷ action ∷ outcome ∷ []) = statement_of_words saga name action outcome None
statement_of_parts (saga ∷ name ∷ action ∷ outcome ∷ attempt ∷ []) =
    option_and_then (λ k. statement_of_words saga name action outcome (Some k)) (attempt_of attempt)
statement_of_parts _ = None

-- the statement of a line, if the line has the format
abbrev pub statement_of : List ℕ → Option Statement
statement_of line = statement_of_parts (slice_split is_space line)
