use Rattle.std.proofs.Common.{◌<◌, ◌∙◌, length}
use Rattle.saga_def.specs.Contents.{contents}
use Rattle.saga_def.proofs.AdjacencyLemmas.{places_read}
use Rattle.saga_def.proofs.NeighbourLemmas.{are_places_of}
use Rattle.saga_def.proofs.definitions.Definition.places_of.Goals as goal

pub returns : goal.returns
returns c =
    let lt : c.args.i < length c.self.inside.steps.items = rw (← c.self.view_is) at c.requires in
    let read = rw (c.as_slice.ensures.value, c.as_slice-2.ensures.value) at c.entries_at.ensures in
    let is = read ∙ places_read _ _ _ _ _ _ c.args.i c.self.invariant.needs lt in
    rw (← c.self.view_is) (record { value = is; exact = rw is (are_places_of (contents c.self.inside.name c.self.inside.steps.items c.self.inside.needs.items) c.args.i); sound = c.self.invariant.sound })
