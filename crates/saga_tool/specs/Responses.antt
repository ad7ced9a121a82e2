-- The response of the program to words.
use Rattle.std.specs.Prelude.{List, ℕ, Option, Some, None, ◌≡◌}
use Rattle.std.specs.String.{string_bytes}
use Rattle.saga_texts.specs.declared.outputs.Output.{Output}
use Rattle.saga_tool.specs.declared.responses.Log.{Log}
use Rattle.saga_tool.specs.declared.responses.Response.{Response}

-- an output without a log
abbrev pub alone : Output → Response
alone output = record { output = output; log = None }

pub record IsAlone (Replies : Output → Type 0) (response : Response) : Type 0 where
  pub replies : Replies response.output
  pub none : response.log ≡ None

-- a text to write to the file of a path
pub record IsLogOf (path text : List ℕ) (log : Log) : Type 0 where
  pub path_is : string_bytes log.path ≡ path
  pub text_is : string_bytes log.text ≡ text

-- the log with its path, if both are present
abbrev pub IsLogFor : Option (List ℕ) → Option (List ℕ) → Option Log → Type 0
IsLogFor (Some path) (Some text) (Some log) = IsLogOf path text log
IsLogFor (Some path) (Some text) None = ⊥
IsLogFor path text log = log ≡ None
