use Rattle.std.proofs.Common.{◌∙◌, ap, length}
use Rattle.std.proofs.lemmas.Option.{slice_get_within}
use Rattle.saga_flow.proofs.PushLemmas.{length-pushed}
use Rattle.saga_closure.specs.Layers.{no_step}
use Rattle.saga_closure.specs.Nets.{terms_in, arcs_in}
use Rattle.saga_closure.proofs.RowLemmas.{rows_off}
use Rattle.saga_closure.proofs.phases.send_along.Goals as goal

pub put_right-requires-clause-sized : goal.put_right-requires-clause-sized
put_right-requires-clause-sized c =
    ap length (c.as_slice.ensures.value ∙ c.augment.ensures.push.adds) ∙ length-pushed c.args.progress.now.on.items c.args.path.now c.augment.ensures.amount ∙ c.requires.sized

pub put_right-requires-clause-within : goal.put_right-requires-clause-within
put_right-requires-clause-within c = λ j lt. let carry = c.requires.carries j no_step lt in slice_get_within (arcs_in c.args.net.now) _ carry.0 carry.1

pub put_right-requires-clause-rows : goal.put_right-requires-clause-rows
put_right-requires-clause-rows c =
    rows_off (terms_in c.args.net.now) c.args.progress.now.on.items _ c.args.path.now c.augment.ensures.amount c.args.rows.now.width c.args.rows.now.words.items (c.as_slice.ensures.value ∙ c.augment.ensures.push.adds) c.requires.rows

pub returns-clause-rows : goal.returns-clause-rows
returns-clause-rows c = rw (← c.as_slice.ensures.value) c.put_right.ensures
