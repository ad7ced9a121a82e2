-- The parsed arguments of a command.
use Rattle.std.specs.Prelude.{ℕ, List, [], ◌∷◌, Option, Some, None, Bool, true, false, option_map, ◌&&◌, ◌≡◌, ◌≤◌, ◌+◌, ⊤, length, map, flat_map, codes, unwrap_or, if◌then◌else◌}
use Rattle.std.specs.List.{All, list_any}
use Rattle.std.specs.Str.{bytes_eq}
use Rattle.std.specs.Str.Parse.{digits_value, without_leading_plus}
use Rattle.clap.specs.Words.{Row, all_of, first_of, one_of, matches_of, fault_of}
use Rattle.clap.specs.Values.{IsUnsignedIn}
use Rattle.clap.specs.Walk.{Text}
use Rattle.saga_tool.specs.Limits.{max_number}
use Rattle.saga_tool.specs.declared.forms.Kind.{Kind}
use Rattle.saga_tool.specs.declared.forms.Kind.TheVariants.{File, Optional, Files, Number}
use Rattle.saga_tool.specs.declared.arguments.Given.{Given}
use Rattle.saga_tool.specs.Forms.{Argument, Outline, app_by}

-- the property of an argument that the matches guarantee: a required file is present, and a number is from 1 to 16
abbrev pub HoldsBy : Kind → Text → List Row → Type 0
HoldsBy File name rows = (path : Text) × (first_of name rows ≡ Some path)
HoldsBy Number name rows = (text : Text) × (one_of name rows ≡ Some text) × IsUnsignedIn 1 max_number text
HoldsBy _ name rows = ⊤

abbrev pub Holds : List Row → Argument → Type 0
Holds rows a = HoldsBy a.kind a.name rows

abbrev pub one_or_none : Option Text → List Text
one_or_none None = []
one_or_none (Some path) = path ∷ []

abbrev pub files_by : Kind → Text → List Row → List Text
files_by File name rows = one_or_none (first_of name rows)
files_by Optional name rows = one_or_none (first_of name rows)
files_by Files name rows = unwrap_or (all_of name rows) []
files_by _ name rows = []

-- the files, in the order of the command's arguments
abbrev pub files_in : List Row → List Argument → List Text
files_in rows args = flat_map (λ a. files_by a.kind a.name rows) args

abbrev pub files_wanted : Kind → ℕ
files_wanted File = 1
files_wanted _ = 0

-- the minimum number of files of a command
abbrev pub wanted : List Argument → ℕ
wanted [] = 0
wanted (a ∷ args) = files_wanted a.kind + wanted args

abbrev pub files_room : Kind → ℕ
files_room File = 1
files_room Optional = 1
files_room _ = 0

-- the number of files for which the command has named arguments
abbrev pub room : List Argument → ℕ
room [] = 0
room (a ∷ args) = files_room a.kind + room args

abbrev pub takes_more : Kind → Bool
takes_more Files = true
takes_more _ = false

-- the number of files is at least the minimum, and at most the number of named arguments unless the command accepts any
-- number of further files
pub record IsCount (args : List Argument) (n : ℕ) : Type 0 where
  pub enough : wanted args ≤ n
  pub few : list_any (λ a. takes_more a.kind) args ≡ false → n ≤ room args

abbrev pub is_number : Kind → Bool
is_number Number = true
is_number _ = false

abbrev pub has_number : Text → List Argument → Bool
has_number name args = list_any (λ a. is_number a.kind && bytes_eq a.name name) args

-- the value of a text that is a number
abbrev pub number_of : Text → ℕ
number_of text = digits_value 10 (without_leading_plus text)

-- the value of the numeric option with this name, or 1 if the command has no such option
abbrev pub IsNumber : List Argument → List Row → Text → ℕ → Type 0
IsNumber args rows name n = Some n ≡ (if has_number name args then option_map number_of (one_of name rows) else Some 1)

-- whether a flag is given; `clap` represents a given flag by the text `true`
abbrev pub is_set : Option Text → Bool
is_set None = false
is_set (Some text) = bytes_eq text (codes "true")

-- `clap` finds no fault among the words, and the arguments are those of its matches
pub record IsGiven (o : Outline) (words : List Text) (given : Given) : Type 0 where
  pub taken : fault_of (app_by o) words ≡ []
  pub files : map (λ s. s.now) given.files.items ≡ files_in (matches_of (app_by o) words) o.arguments
  pub holds : All (Holds (matches_of (app_by o) words)) o.arguments
  pub counted : IsCount o.arguments (length given.files.items)
  pub script : option_map (λ s. s.now) given.script ≡ first_of (codes "script") (matches_of (app_by o) words)
  pub log : option_map (λ s. s.now) given.log ≡ first_of (codes "log") (matches_of (app_by o) words)
  pub lines : given.lines ≡ is_set (first_of (codes "lines") (matches_of (app_by o) words))
  pub from : option_map (λ s. s.now) given.from ≡ first_of (codes "from") (matches_of (app_by o) words)
  pub fleet : given.fleet ≡ is_set (first_of (codes "fleet") (matches_of (app_by o) words))
  pub workers : IsNumber o.arguments (matches_of (app_by o) words) (codes "workers") given.workers
  pub workers_within : (1 ≤ given.workers) × (given.workers ≤ max_number)
  pub shards : IsNumber o.arguments (matches_of (app_by o) words) (codes "shards") given.shards
  pub shards_within : (1 ≤ given.shards) × (given.shards ≤ max_number)
