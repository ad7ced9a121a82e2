use Rattle.std.proofs.Common.{◌≡◌, map, drop}
use Rattle.toml.specs.View.{view}
use Rattle.saga_bytes.specs.Readings.{each, with_front}
use Rattle.saga_text.specs.Format.{needs_of}
use Rattle.saga_text.specs.Drafts.{names_of}
use Rattle.saga_text.proofs.steps.needs_of_each.Given as goal

abbrev pub invariant-loop-item : goal.invariant-loop-item
invariant-loop-item l =
    with_front (map names_of l.needs.items) (each needs_of (map view (drop l.item-index l.items))) ≡ each needs_of (map view l.items)
