use Rattle.std.proofs.Common.{◌<◌, length, arith}
use Rattle.std.proofs.lemmas.List.{drop_more}
use Rattle.saga_text.specs.Numbers.{number_in}
use Rattle.saga_text.proofs.NumberLemmas.{map-numbered, needs-more}
use Rattle.saga_text.proofs.numbers.number_needs.Goals as goal

pub loop-step-preserved : goal.loop-step-preserved
loop-step-preserved c =
    let within : c.loop-step.step < length c.args.names.now = omega arith in
    let drops = drop_more c.args.names.now c.loop-step.step c.index-names-step.result within in
    let numbered = map-numbered c.loop-step.step c.args.steps.now (number_in c.in_ok-numbers.numbers (length c.args.steps.now)) c.in_ok-numbers.ensures c.index-names-step.result.items in
    let before = rw (drops, ← c.index-names-step.is) at c.loop-step.invariant in
    needs-more _ _ _ _ _ _ (rw c.deref.ensures.value at c.in_ok-push_needs.ensures) numbered before
