use Rattle.std.proofs.Common.{◌≡◌, ℕ, List, take}
use Rattle.saga_text.specs.Numbers.{at_text}
use Rattle.saga_text.proofs.NumberLemmas.{place_of}
use Rattle.saga_text.proofs.numbers.numbers_of.Given as goal

abbrev pub invariant-loop-number : goal.invariant-loop-number
invariant-loop-number l = (name : List ℕ) → at_text l.numbers name ≡ place_of (take l.number l.steps) name
