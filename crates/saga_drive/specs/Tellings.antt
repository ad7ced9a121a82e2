-- The texts of tasks in a reply, one after another, and their log lines.
use Rattle.std.specs.Prelude.{◌≡◌, ℕ, ◌+◌, ◌≤◌, ◌++◌, List, [], Bool, true, false, codes, length}
use Rattle.std.specs.String.{string_bytes, string_capacity, string_len}
use Rattle.saga_drive.specs.declared.tellings.Item.{Item}
use Rattle.saga_drive.specs.declared.tellings.Telling.{Telling}

-- the text of a task, with the word for the phase of its saga
abbrev pub told_of : Item → List ℕ → List ℕ
told_of item word = string_bytes item.front ++ (word ++ string_bytes item.back)

-- the separator between a task and the tasks before it
abbrev pub comma_if : Bool → List ℕ
comma_if true = codes ","
comma_if false = []

-- one more task was appended, with its text and its lines
pub record TellsMore (old new : Telling) (told added : List ℕ) : Type 0 where
  pub text : string_bytes new.text ≡ string_bytes old.text ++ (comma_if old.apart ++ told)
  pub lines : string_bytes new.lines ≡ string_bytes old.lines ++ added
  pub apart : new.apart ≡ true

pub record TellsSame (old new : Telling) : Type 0 where
  pub text : string_bytes new.text ≡ string_bytes old.text
  pub lines : string_bytes new.lines ≡ string_bytes old.lines
  pub apart : new.apart ≡ old.apart

-- the capacity suffices for the task, for the word for a phase and for the end of the reply
pub record HasRoom (telling : Telling) (item : Item) : Type 0 where
  pub text : string_len telling.text + (length (string_bytes item.front) + (length (string_bytes item.back) + 41)) ≤ string_capacity telling.text
  pub lines : string_len telling.lines + length (string_bytes item.lines) ≤ string_capacity telling.lines
