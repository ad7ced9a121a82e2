use Rattle.std.proofs.Common.{◌≡◌, map, drop}
use Rattle.toml.specs.View.{view}
use Rattle.saga_bytes.specs.Readings.{each, with_front}
use Rattle.saga_text.specs.Format.{step_of}
use Rattle.saga_text.proofs.steps.steps_of.Given as goal

abbrev pub invariant-loop-item : goal.invariant-loop-item
invariant-loop-item l =
    with_front l.steps.items (each step_of (map view (drop l.item-index l.items))) ≡ each step_of (map view l.items)
