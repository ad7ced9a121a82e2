-- The word of each fault, and the fault of a file for each fault of a definition.
use Rattle.std.specs.Prelude.{ℕ, List, codes}
use Rattle.saga_def.specs.declared.faults.DefFault.{DefFault}
use Rattle.saga_def.specs.declared.faults.DefFault.TheVariants.{OutOfMemory as NoMemory}
use Rattle.saga_def.specs.Faults.{word_of as def_word_of}
use Rattle.saga_text.specs.declared.faults.TextFault.{TextFault}
use Rattle.saga_text.specs.declared.faults.TextFault.TheVariants.{TooLong, NotToml, BadFormat, UnknownKey, MissingKey, BadType, Def, OutOfMemory}

-- the fault in one word; a definition's fault has its own word
abbrev pub word_of : TextFault → List ℕ
word_of TooLong = codes "too-long"
word_of NotToml = codes "not-toml"
word_of BadFormat = codes "bad-format"
word_of UnknownKey = codes "unknown-key"
word_of MissingKey = codes "missing-key"
word_of BadType = codes "bad-type"
word_of (Def fault) = def_word_of fault
word_of OutOfMemory = codes "out-of-memory"

-- a fault of a definition is included, except for lack of memory, which becomes the same fault of the file
abbrev pub carried : DefFault → TextFault
carried NoMemory = OutOfMemory
carried fault = Def fault
