-- Laws of the reading of a text, for every text.
use Rattle.std.specs.Prelude.{ℕ, List, Result, Ok, Err, ◌≡◌, ◌≢◌}
use Rattle.saga_def.specs.Contents.{Contents}
use Rattle.saga_text.specs.declared.faults.TextFault.{TextFault}
use Rattle.saga_text.specs.declared.faults.TextFault.TheVariants.{OutOfMemory}
use Rattle.saga_text.specs.Faults.{word_of}
use Rattle.saga_text.specs.Reads.{Reads}

-- two results agree: they are the same definition, or faults with the same word
abbrev pub TellTheSame : Result Contents TextFault → Result Contents TextFault → Type 0
TellTheSame (Ok c) (Ok d) = c ≡ d
TellTheSame (Err e) (Err f) = word_of e ≡ word_of f
TellTheSame _ _ = ⊥

-- except for lack of memory, a text has one result; a fault may name one of several cycles
abbrev pub HasOneAnswer : List ℕ → Type 0
HasOneAnswer text =
    (a b : Result Contents TextFault) → a ≢ Err OutOfMemory → b ≢ Err OutOfMemory → Reads text a → Reads text b → TellTheSame a b
