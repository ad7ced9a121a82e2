-- The command or the fault that words give.
use Rattle.std.specs.List.{starts_with}
use Rattle.std.specs.Prelude.{Bool, List, [], ◌∷◌, true, nat_eq, if◌then◌else◌, codes, take, ◌≡◌, ◌≢◌, ◌⊎◌}
use Rattle.clap.specs.Words.{App, Kinds, IsAmong, HasKind, fault_of, kind_of, new_app, with_rule}
use Rattle.clap.specs.Kinds.{or_else}
use Rattle.clap.specs.Walk.{Text}
use Rattle.clap.specs.declared.error.Error.{Error}
use Rattle.clap.specs.declared.error.kind.ErrorKind.{ErrorKind}
use Rattle.clap.specs.declared.error.kind.ErrorKind.TheVariants as kind
use Rattle.saga_tool.specs.declared.forms.Name.{Name}
use Rattle.saga_tool.specs.declared.forms.Kind.TheVariants.{File}
use Rattle.saga_tool.specs.declared.words.WordsFault.{WordsFault}
use Rattle.saga_tool.specs.declared.words.WordsFault.TheVariants.{Usage, Help, OutOfMemory}
use Rattle.saga_tool.specs.declared.words.Words.{Words}
use Rattle.saga_tool.specs.Forms.{app_by, outline_for, word_for, rule_by}
use Rattle.saga_tool.specs.Given.{IsGiven}

-- the first word names the command, and the others give its files and its options
pub record IsCommand (words : List Text) (found : Words) : Type 0 where
  pub rest : List Text
  pub named : words ≡ word_for found.name ∷ rest
  pub given : IsGiven (outline_for found.name) rest found.given

-- the first word names a command, and `clap` finds no fault among the others
pub record IsTaken (words : List Text) : Type 0 where
  pub name : Name
  pub rest : List Text
  pub named : words ≡ word_for name ∷ rest
  pub taken : fault_of (app_by (outline_for name)) rest ≡ []

-- help or the version is asked for
abbrev pub IsHelpKind : ErrorKind → Type 0
IsHelpKind k = (k ≡ kind.DisplayHelp) ⊎ (k ≡ kind.DisplayVersion)

-- an error of one of these kinds, which is `Help` if help or the version is shown; or lack of memory
abbrev pub IsFaultOf : Kinds → WordsFault → Type 0
IsFaultOf kinds (Usage error) = (IsHelpKind (kind_of error) → ⊥) × IsAmong (kind_of error) kinds
IsFaultOf kinds (Help error) = IsHelpKind (kind_of error) × IsAmong (kind_of error) kinds
IsFaultOf kinds OutOfMemory = Unit {0}

-- the fault for an error, by its kind
abbrev pub IsMadeOf : Error → WordsFault → Type 0
IsMadeOf error (Usage given) = (given ≡ error) × (kind_of error ≢ kind.OutOfMemory) × (IsHelpKind (kind_of error) → ⊥)
IsMadeOf error (Help given) = (given ≡ error) × IsHelpKind (kind_of error)
IsMadeOf error OutOfMemory = kind_of error ≡ kind.OutOfMemory

-- the `clap` command of the program, which requires a command and has a version
abbrev pub sagas_app : App
sagas_app = with_rule (record (new_app (codes "sagas")) {
  top = record (new_app (codes "sagas")).top { no_binary_name = true; has_version = true };
}) (record (rule_by File (codes "COMMAND")) { value_names = 0 })

-- no word, or one that starts with a hyphen
abbrev pub may_be_option : List Text → Bool
may_be_option [] = true
may_be_option (word ∷ rest) = starts_with nat_eq word (codes "-")

-- the error kinds for a first word that does not name a command: an invalid command; or for a word that may be an
-- option, the first error of `clap`
abbrev pub other_kinds : List Text → Kinds
other_kinds first =
    if may_be_option first then or_else (fault_of sagas_app first) (kind.InvalidSubcommand ∷ []) else kind.InvalidSubcommand ∷ []

abbrev pub IsOther : List Text → Error → Type 0
IsOther first = HasKind (other_kinds first)

-- a fault of the command that the first word names, or of the program if the first word names no command
pub record IsWordsFault (words : List Text) (fault : WordsFault) : Type 0 where
  pub of_command : (name : Name) (rest : List Text) → words ≡ word_for name ∷ rest → IsFaultOf (fault_of (app_by (outline_for name)) rest) fault
  pub of_other : ((name : Name) (rest : List Text) → words ≡ word_for name ∷ rest → ⊥) → IsFaultOf (other_kinds (take 1 words)) fault
