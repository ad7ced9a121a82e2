-- The operating system, as a drive uses it.
use Rattle.std.specs.Prelude.{ℕ, Bool, List, ◌++◌, Option, Result, codes}
use Rattle.saga_serve.specs.declared.outside.FileFault.{FileFault}
use Rattle.saga_serve.specs.declared.outside.OpenFault.{OpenFault}

abbrev pub Text : Type 0
Text = List ℕ

-- the possible results of opening the log at a path and reading it, up to a limit
abbrev pub LogGives : Type 1
LogGives = Text → ℕ → Result Text OpenFault → Type 0

-- the path of the definitions file beside the log at a path
abbrev pub beside : Text → Text
beside path = path ++ codes ".definitions"

-- the possible results of reading the definitions file beside the log at a path, up to a limit;
-- `None` if there is no such file
abbrev pub BesideGives : Type 1
BesideGives = Text → ℕ → Result (Option Text) FileFault → Type 0

-- the definitions file beside the log at a path was made with this text, and its content and name
-- are on the disk; or that failed
abbrev pub BesideMade : Type 1
BesideMade = Text → Text → Bool → Type 0

-- a text was written to standard error, as far as standard error accepts it
abbrev pub Complains : Type 1
Complains = Text → Type 0

-- the possible results of the calls
pub record World : Type 1 where
  pub log_gives : LogGives
  pub beside_gives : BesideGives
  pub beside_made : BesideMade
  pub complains : Complains
