-- Of each word those are labelled that have no level; the others of the set have one.
use Rattle.std.proofs.Common.{◌≡◌, ◌<◌, ◌+◌, ◌*◌, ◌∙◌, length, get_or, arith}
use Rattle.std.proofs.lemmas.List.{get_or_default}
use Rattle.saga_closure.specs.Bits.{IsWithout}
use Rattle.saga_closure.proofs.SearchLemmas.{set_begun, in_set, set_more}
use Rattle.saga_closure.proofs.searching.label_all.Goals as goal
use Rattle.saga_closure.proofs.searching.label_all.Goals.{After-without-word}

rest : (c : After-without-word) → IsWithout (get_or c.args.set.now c.loop-place.place 0) (get_or c.loop-place.found.labelled.items c.loop-place.place 0) c.without-word.result
rest c =
    let within : c.loop-place.place < length c.loop-place.found.labelled.items = omega (arith, c.loop-place-test.true, c.requires.same, c.loop-place.invariant.grown.wide) in
    let read : c.index.result.now ≡ get_or c.loop-place.found.labelled.items c.loop-place.place 0 = c.index.ensures ∙ get_or_default c.loop-place.found.labelled.items c.loop-place.place c.index.result.now 0 within in
    rw (← read) c.without-word.ensures

pub loop-place-init : goal.loop-place-init
loop-place-init c = set_begun c.args.set.now c.args.level c.args.found.now

pub overflow_mul-place : goal.overflow_mul-place
overflow_mul-place c = omega (arith, c.loop-place-test.true, c.requires.narrow)

pub label_word-requires-clause-level : goal.label_word-requires-clause-level
label_word-requires-clause-level c = λ b lt held.
    let rest_is = rest (goal.at.label_word-requires-clause-level c).After-without-word in
    omega (arith, c.requires.level (64 * c.loop-place.place + b) (omega (arith, lt, c.loop-place-test.true)) (in_set c.args.set.now c.loop-place.place _ c.without-word.result b rest_is lt held), c.loop-place.invariant.grown.sized)

pub loop-place-preserved : goal.loop-place-preserved
loop-place-preserved c =
    let rest_is = rest (goal.at.loop-place-preserved c).After-without-word in
    set_more c.args.set.now c.args.level c.args.found.now c.loop-place.place c.without-word.result c.loop-place.found c.label_word.new.found c.loop-place.invariant c.requires.low c.requires.level c.loop-place-test.true c.requires.marked rest_is c.in_ok-label_word.ensures.labelled c.in_ok-label_word.ensures.all
