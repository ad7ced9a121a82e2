use Rattle.std.proofs.Common.{◌≡◌, map, drop}
use Rattle.serde_json.specs.View.{view}
use Rattle.saga_json.specs.Reads.{each, with_front}
use Rattle.saga_cert.specs.Cases.{state_of}
use Rattle.saga_cert.proofs.states.states_of.Given as goal

abbrev pub invariant-loop-item : goal.invariant-loop-item
invariant-loop-item l =
    with_front l.states.items (each state_of (map view (drop l.item-index l.items))) ≡ each state_of (map view l.items)
