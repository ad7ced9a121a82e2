-- The result of reading a file or a part of it.
use Rattle.std.specs.Prelude.{ℕ, List, length, Result, Ok, Err, ◌≡◌, ◌<◌, ◌≤◌}
use Rattle.toml.specs.Data.{Members}
use Rattle.saga_def.specs.Contents.{Contents}
use Rattle.saga_def.specs.Faults.{IsFirstFault}
use Rattle.saga_def.specs.Sound.{IsSound}
use Rattle.saga_def.specs.declared.faults.DefFault.TheVariants.{OutOfMemory as NoMemory}
use Rattle.saga_text.specs.Limits.{max_definition}
use Rattle.saga_text.specs.declared.faults.TextFault.{TextFault}
use Rattle.saga_text.specs.declared.faults.TextFault.TheVariants.{TooLong, NotToml, Def, OutOfMemory}
use Rattle.saga_text.specs.Trees.{IsTextOf}
use Rattle.saga_text.specs.Format.{contents_of}

-- the fault is that of the reading, or lack of memory
abbrev pub Fails : {A : Type 0} → TextFault → Result A TextFault → Type 0
Fails OutOfMemory reading = Unit {0}
Fails fault reading = reading ≡ Err fault

-- the value, as `view` shows it; or the fault of the reading, or lack of memory
abbrev pub Gives : {A B : Type 0} → (B → A) → Result B TextFault → Result A TextFault → Type 0
Gives view (Ok x) reading = reading ≡ Ok (view x)
Gives view (Err fault) reading = Fails fault reading

-- the text is within the limit, and its tree has this reading
abbrev pub Holds : List ℕ → Result Contents TextFault → Type 0
Holds text reading = (length text ≤ max_definition) × ((top : Members) × IsTextOf top text × (contents_of top ≡ reading))

-- the definition in the text, which is sound; or otherwise the first fault, except for lack of memory
abbrev pub Reads : List ℕ → Result Contents TextFault → Type 0
Reads text (Ok c) = Holds text (Ok c) × IsSound c
Reads text (Err TooLong) = max_definition < length text
Reads text (Err NotToml) = (length text ≤ max_definition) × ((top : Members) → IsTextOf top text → ⊥)
Reads text (Err (Def NoMemory)) = ⊥
Reads text (Err (Def fault)) = (c : Contents) × Holds text (Ok c) × IsFirstFault c fault
Reads text (Err OutOfMemory) = Unit {0}
Reads text (Err fault) = Holds text (Err fault)

-- the text is not UTF-8, or `toml` refuses it; or lack of memory
abbrev pub IsTreeFault : List ℕ → TextFault → Type 0
IsTreeFault text NotToml = (top : Members) → IsTextOf top text → ⊥
IsTreeFault text OutOfMemory = Unit {0}
IsTreeFault text _ = ⊥

-- the first fault of a definition, or lack of memory
abbrev pub IsFirstCarried : Contents → TextFault → Type 0
IsFirstCarried c (Def NoMemory) = ⊥
IsFirstCarried c (Def fault) = IsFirstFault c fault
IsFirstCarried c OutOfMemory = Unit {0}
IsFirstCarried c _ = ⊥
