-- The outside world, as the program sees it.
use Rattle.std.specs.Prelude.{ℕ, Bool, List, Option, Result, IfOk, ⊤, length, ◌≤◌, ◌+◌}
use Rattle.std.specs.declared.io.ErrorKind.{ErrorKind}
use Rattle.std.specs.declared.io.ErrorKind.TheVariants as kind
use Rattle.saga_serve.specs.declared.outside.FileFault.{FileFault}
use Rattle.saga_serve.specs.declared.outside.FileFault.TheVariants.{Unreadable, OutOfMemory}
use Rattle.saga_serve.specs.declared.outside.OpenFault.{OpenFault}
use Rattle.saga_serve.specs.declared.outside.OpenFault.TheVariants as opening
use Rattle.saga_serve.specs.Drives.{IsDriveOutput, IsLinesOutput}
use Rattle.saga_serve.specs.Outside.{World as DriveWorld}
use Rattle.saga_texts.specs.declared.outputs.Output.{Output}

abbrev pub Text : Type 0
Text = List ℕ

-- the results that a read of standard input, or of a file, up to a limit may give
abbrev pub InputGives : Type 1
InputGives = ℕ → Result Text FileFault → Type 0

abbrev pub FileGives : Type 1
FileGives = Text → InputGives

-- a text was written to standard output, or could not be written
abbrev pub Prints : Type 1
Prints = Text → Bool → Type 0

-- a text was sent to standard error; a failure of that is ignored
abbrev pub Complains : Type 1
Complains = Text → Type 0

-- the log at a path may be written, and its file is unchanged; or another process has locked it
abbrev pub Claims : Type 1
Claims = Text → Bool → Type 0

-- the file of a path has this text, or could not be written
abbrev pub Writes : Type 1
Writes = Text → Text → Bool → Type 0

-- the answers that the outside world may give
pub record World : Type 1 where
  pub file_gives : FileGives
  pub input_gives : InputGives
  -- standard input is a terminal
  pub has_terminal : Bool
  pub prints : Prints
  pub complains : Complains
  pub claims : Claims
  pub writes : Writes
  -- the answers that it may give to a drive
  pub drive : DriveWorld

-- each end of a drive that is possible in the first world is possible in the second: with or without a log, and with
-- printed log lines
pub record DrivesWithin (seen world : DriveWorld) : Type 0 where
  pub drives : (log : Option Text) (texts : List Text) (output : Output) → IsDriveOutput seen log texts output → IsDriveOutput world log texts output
  pub shows : (text : Text) (texts : List Text) (output : Output) → IsLinesOutput seen text texts output → IsLinesOutput world text texts output

-- lack of memory is distinguished from every other error
abbrev pub file_fault_of : ErrorKind → FileFault
file_fault_of kind.OutOfMemory = OutOfMemory
file_fault_of _ = Unreadable

-- the same for a log
abbrev pub open_fault_of : FileFault → OpenFault
open_fault_of OutOfMemory = opening.OutOfMemory
open_fault_of Unreadable = opening.Unreadable

-- the only assumption about the system: it reads at most one byte past a limit
abbrev pub IsWithin : {E : Type 0} → ℕ → Result Text E → Type 0
IsWithin limit given = IfOk given (λ text. length text ≤ limit + 1)

abbrev pub drive_world : DriveWorld
drive_world = record {
  log_gives = λ path limit given. IsWithin limit given;
  beside_gives = λ path limit given. ⊤;
  beside_made = λ path text made. ⊤;
  complains = λ text. ⊤;
}

abbrev pub system_world : Bool → World
system_world is_terminal = record {
  file_gives = λ path limit given. IsWithin limit given;
  input_gives = λ limit given. IsWithin limit given;
  has_terminal = is_terminal;
  prints = λ text written. ⊤;
  complains = λ text. ⊤;
  claims = λ path free. ⊤;
  writes = λ path text written. ⊤;
  drive = drive_world;
}
