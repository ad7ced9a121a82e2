use Rattle.std.proofs.Common.{◌<◌, ◌*◌, ◌/◌, length, arith}
use Rattle.std.proofs.lemmas.List.{get_or_read}
use Rattle.saga_order.proofs.BitLemmas.{with_bit}
use Rattle.saga_order.proofs.step_sets.StepSet.insert.Goals as goal

pub returns : goal.returns
returns c =
    let within : c.args.step < 64 * length c.self.inside.words.items = rw c.self.view_is c.requires in
    let place : c.args.step / 64 < length c.self.inside.words.items = omega arith in
    rw (← c.self.view_is)
    (with_bit c.self.inside.words.items c.args.step c.index_mut.result.now within
    (get_or_read c.self.inside.words.items (c.args.step / 64) c.index_mut.result.now place c.index_mut.ensures.value 0))
