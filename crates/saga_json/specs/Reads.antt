-- The result of a call, by the reading of a part of a text.
use Rattle.std.specs.Prelude.{Result, Ok, Err, ◌≡◌}
pub use Rattle.saga_bytes.specs.Readings.{◌>>=◌, each, seen, with_front}
use Rattle.saga_json.specs.declared.faults.JsonFault.{JsonFault}
use Rattle.saga_json.specs.declared.faults.JsonFault.TheVariants.{OutOfMemory}

-- the fault is that of the reading, or lack of memory
abbrev pub Fails : {A : Type 0} → JsonFault → Result A JsonFault → Type 0
Fails OutOfMemory reading = Unit {0}
Fails fault reading = reading ≡ Err fault

-- the value, as `view` shows it; or the fault of the reading, or lack of memory
abbrev pub Gives : {A B : Type 0} → (B → A) → Result B JsonFault → Result A JsonFault → Type 0
Gives view (Ok x) reading = reading ≡ Ok (view x)
Gives view (Err fault) reading = Fails fault reading
