-- Laws of the reading of a text, for every text.
use Rattle.std.specs.Prelude.{ℕ, List, Result, Err, ◌≡◌, ◌≢◌}
use Rattle.saga_def.specs.Contents.{Contents}
use Rattle.saga_case.specs.declared.answers.Answer.{Answer}
use Rattle.saga_case.specs.Situation.{Situation}
use Rattle.saga_json.specs.declared.faults.JsonFault.{JsonFault}
use Rattle.saga_json.specs.declared.faults.JsonFault.TheVariants.{OutOfMemory}
use Rattle.saga_cert.specs.Reads.{ReadsAnswer, ReadsCase}

-- except for lack of memory, reading a text as a case of this definition has one result, a case or a fault
abbrev pub HasOneCase : Contents → List ℕ → Type 0
HasOneCase definition text =
    (a b : Result Situation JsonFault) → a ≢ Err OutOfMemory → b ≢ Err OutOfMemory → ReadsCase definition text a → ReadsCase definition text b → a ≡ b

-- and reading it as an answer has one result, an answer or a fault
abbrev pub HasOneAnswer : List ℕ → Type 0
HasOneAnswer text =
    (a b : Result Answer JsonFault) → a ≢ Err OutOfMemory → b ≢ Err OutOfMemory → ReadsAnswer text a → ReadsAnswer text b → a ≡ b
