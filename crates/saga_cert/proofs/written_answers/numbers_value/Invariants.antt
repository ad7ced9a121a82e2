use Rattle.std.proofs.Common.{◌≡◌, ◌++◌, map, drop}
use Rattle.serde_json.specs.Data.{number, unsigned}
use Rattle.serde_json.specs.View.{view}
use Rattle.saga_cert.specs.Kept.{numbers_from}
use Rattle.saga_cert.proofs.written_answers.numbers_value.Given as goal

abbrev pub invariant-loop-step : goal.invariant-loop-step
invariant-loop-step l =
    map view l.list.items ++ map (λ n. number (unsigned n)) (numbers_from l.step (drop l.step l.marks)) ≡ map (λ n. number (unsigned n)) (numbers_from 0 l.marks)
