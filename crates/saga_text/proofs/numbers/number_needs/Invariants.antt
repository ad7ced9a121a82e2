use Rattle.std.proofs.Common.{◌≡◌, ◌++◌, map, drop}
use Rattle.saga_text.specs.Format.{number_of, numbered}
use Rattle.saga_text.specs.Drafts.{names_of}
use Rattle.saga_text.proofs.numbers.number_needs.Given as goal

abbrev pub invariant-loop-step : goal.invariant-loop-step
invariant-loop-step l =
    l.needs.items ++ numbered (number_of l.steps) l.step (map names_of (drop l.step l.names)) ≡ numbered (number_of l.steps) 0 (map names_of l.names)
