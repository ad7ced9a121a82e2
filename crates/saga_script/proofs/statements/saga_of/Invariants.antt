use Rattle.std.proofs.Common.{◌≡◌, ◌<◌, ◌^◌, drop}
use Rattle.saga_script.specs.Statements.{number_on}
use Rattle.saga_script.proofs.statements.saga_of.Given as goal

abbrev pub invariant-loop-byte : goal.invariant-loop-byte
invariant-loop-byte l = (number_on l.value (drop l.byte-index l.part) ≡ number_on 0 l.part) × (l.value < 10 ^ l.byte-index)
