-- The values at the keys that a request may have.
use Rattle.std.specs.Prelude.{ℕ, List, nat_lt, Option, Some, None, Result, Ok, Err, codes, if◌then◌else◌}
use Rattle.std.specs.Str.{bytes_eq}
use Rattle.serde_json.specs.Data.{Data, string}
use Rattle.saga_history.specs.declared.tasks.Kind.{Kind}
use Rattle.saga_history.specs.declared.tasks.Kind.TheVariants.{Run, Undo}
use Rattle.saga_json.specs.declared.faults.JsonFault.{JsonFault}
use Rattle.saga_json.specs.declared.faults.JsonFault.TheVariants.{BadType, MissingKey, UnknownKey}
use Rattle.saga_json.specs.Fields.{at_key, u16_of, u32_of}
use Rattle.saga_json.specs.Keys.{has_key}
use Rattle.saga_json.specs.Reads.{◌>>=◌}
use Rattle.saga_drive.specs.declared.attempts.Attempt.{Attempt}
use Rattle.saga_drive.specs.declared.openings.Wanted.{Wanted}
use Rattle.saga_drive.specs.declared.openings.Wanted.TheVariants.{Index, Name}

-- a 32-bit integer, if the object has the key
abbrev pub u32_if : List ℕ → Data → Result (Option ℕ) JsonFault
u32_if key value =
    if has_key key value then at_key u32_of key value >>= (λ n. Ok (Some n)) else Ok None

-- a text
abbrev pub bytes_of : Data → Result (List ℕ) JsonFault
bytes_of (string text) = Ok text
bytes_of _ = Err BadType

-- the definition with which to open a saga, by its index or by its name, but not by both
abbrev pub wanted_of : Data → Result Wanted JsonFault
wanted_of value =
    if has_key (codes "def") value
    then (if has_key (codes "name") value then Err UnknownKey else at_key u32_of (codes "def") value >>= (λ k. Ok (Index k)))
    else (at_key bytes_of (codes "name") value >>= (λ name. Ok (Name name)))

-- an action or a compensation, for its word
abbrev pub kind_named : List ℕ → Result Kind JsonFault
kind_named word =
    if bytes_eq word (codes "run") then Ok Run
    else (if bytes_eq word (codes "undo") then Ok Undo else Err BadType)

abbrev pub kind_of : Data → Result Kind JsonFault
kind_of (string word) = kind_named word
kind_of _ = Err BadType

-- the attempt that a report names: both its task and its number, or neither of them
abbrev pub attempt_of : Data → Result (Option Attempt) JsonFault
attempt_of value =
    if has_key (codes "task") value
    then at_key u16_of (codes "attempt") value >>= (λ number.
    at_key kind_of (codes "task") value >>= (λ task. Ok (Some (record { task = task; number = number }))))
    else (if has_key (codes "attempt") value then Err MissingKey else Ok None)

-- the maximum number of tasks in one reply
abbrev pub max_most : ℕ
max_most = 1000

-- the requested maximum number of tasks, from 1 to `max_most`
abbrev pub count_of : ℕ → Result ℕ JsonFault
count_of n = if nat_lt 0 n then (if nat_lt max_most n then Err BadType else Ok n) else Err BadType

abbrev pub most_of : Data → Result ℕ JsonFault
most_of value = at_key u16_of (codes "most") value >>= count_of
