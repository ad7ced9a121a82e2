use Rattle.std.proofs.Common.{◌≡◌, map, take}
use Rattle.serde_json.specs.Data.{string}
use Rattle.serde_json.specs.View.{view}
use Rattle.saga_case.specs.States.{word_of}
use Rattle.saga_cert.proofs.written_cases.states_value.Given as goal

abbrev pub invariant-loop-state : goal.invariant-loop-state
invariant-loop-state l = map view l.list.items ≡ map (λ s. string (word_of s)) (take l.state-index l.states)
