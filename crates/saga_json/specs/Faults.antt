-- The word of each fault.
use Rattle.std.specs.Prelude.{ℕ, List, codes}
use Rattle.saga_json.specs.declared.faults.JsonFault.{JsonFault}
use Rattle.saga_json.specs.declared.faults.JsonFault.TheVariants.{NotJson, Kind, UnknownKey, MissingKey, BadType, Kept, WrongLength, Busy, OutOfMemory}

abbrev pub word_of : JsonFault → List ℕ
word_of NotJson = codes "not-json"
word_of Kind = codes "kind"
word_of UnknownKey = codes "unknown-key"
word_of MissingKey = codes "missing-key"
word_of BadType = codes "bad-type"
word_of Kept = codes "kept"
word_of WrongLength = codes "wrong-length"
word_of (Busy step) = codes "busy"
word_of OutOfMemory = codes "out-of-memory"
