use Rattle.std.proofs.Common.{◌<◌, ◌∙◌, length}
use Rattle.saga_def.proofs.AdjacencyLemmas.{steps_read}
use Rattle.saga_def.proofs.NeighbourLemmas.{are_needs_of}
use Rattle.saga_def.proofs.definitions.Definition.needs_of.Goals as goal

pub returns : goal.returns
returns c =
    let lt : c.args.i < length c.self.inside.steps.items = rw (← c.self.view_is) at c.requires in
    let read = rw (c.as_slice.ensures.value, c.as_slice-2.ensures.value) at c.entries_at.ensures in
    let is = read ∙ steps_read _ _ _ _ _ _ c.args.i c.self.invariant.needs lt in
    rw (← c.self.view_is) (record { value = is; exact = rw is (are_needs_of _ c.args.i c.self.invariant.sound); sound = c.self.invariant.sound })
