use Rattle.std.proofs.Common.{◌<◌, ◌∙◌, length}
use Rattle.saga_def.proofs.AdjacencyLemmas.{steps_read}
use Rattle.saga_def.proofs.NeighbourLemmas.{are_needed_by}
use Rattle.saga_def.proofs.definitions.Definition.needed_by.Goals as goal

pub returns : goal.returns
returns c =
    let lt : c.args.i < length c.self.inside.steps.items = rw (← c.self.view_is) at c.requires in
    let read = rw (c.as_slice.ensures.value, c.as_slice-2.ensures.value) at c.entries_at.ensures in
    let is = read ∙ steps_read _ _ _ _ _ _ c.args.i c.self.invariant.dependants lt in
    rw (← c.self.view_is) (record { value = is; exact = rw is (are_needed_by _ c.args.i c.self.invariant.sound); sound = c.self.invariant.sound })
