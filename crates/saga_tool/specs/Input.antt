-- The response of the program to standard input.
use Rattle.std.specs.Prelude.{ℕ, List, [], ◌++◌, codes, length, ◌≡◌, ◌<◌, ◌≤◌, ◌⊎◌}
use Rattle.std.specs.String.{string_bytes}
use Rattle.saga_tool.specs.Limits.{max_input}
use Rattle.saga_texts.specs.declared.outputs.Output.{Output}
use Rattle.saga_texts.specs.Lines.{line_feed}
use Rattle.saga_tool.specs.Parts.{AreParts, HasNoParts}
use Rattle.saga_texts.specs.Texts.{IsCheckOutput}

-- one line on standard error, and status 3
pub record IsBadInput (line : List ℕ) (output : Output) : Type 0 where
  pub out : string_bytes output.out ≡ []
  pub err : string_bytes output.err ≡ line
  pub status : output.status ≡ 3

-- an input that is too long, or does not have three parts
pub record IsTooLong (input : List ℕ) (output : Output) : Type 0 where
  pub long : max_input < length input
  pub says : IsBadInput (codes "sagas: input: too-long" ++ line_feed) output

pub record LacksParts (input : List ℕ) (output : Output) : Type 0 where
  pub short : length input ≤ max_input
  pub none : HasNoParts input
  pub says : IsBadInput (codes "sagas: input: parts" ++ line_feed) output

pub record IsPartsOutput (input : List ℕ) (output : Output) : Type 0 where
  pub short : length input ≤ max_input
  pub definition : List ℕ
  pub case : List ℕ
  pub answer : List ℕ
  pub parts : AreParts input definition case answer
  pub says : IsCheckOutput definition case answer output

abbrev pub AnswersInput : List ℕ → Output → Type 0
AnswersInput input output = IsTooLong input output ⊎ (LacksParts input output ⊎ IsPartsOutput input output)
