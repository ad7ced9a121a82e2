use Rattle.std.proofs.Common.{◌≡◌, map, drop}
use Rattle.serde_json.specs.View.{view}
use Rattle.saga_json.specs.Reads.{each, with_front}
use Rattle.saga_json.specs.Fields.{u16_of}
use Rattle.saga_json.proofs.fields.u16s_of.Given as goal

abbrev pub invariant-loop-item : goal.invariant-loop-item
invariant-loop-item l =
    with_front l.numbers.items (each u16_of (map view (drop l.item-index l.items))) ≡ each u16_of (map view l.items)
