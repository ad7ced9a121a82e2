-- The lowest bit is taken off, and the step for which it stands has a level then.
use Rattle.std.proofs.Common.{true, ◌≡◌, ◌<◌, ◌+◌, ◌∙◌, length, get_or, refl, sym, arith, w64}
use Rattle.std.specs.Int.{trailing_zeros}
use Rattle.std.proofs.lemmas.List.{get_or_default}
use Rattle.saga_closure.specs.Bits.{holds_bit}
use Rattle.saga_closure.proofs.BitLemmas.{lowest_bit, cleared_less}
use Rattle.saga_closure.proofs.SearchLemmas.{word_begun, word_passed, word_labelled}
use Rattle.saga_closure.proofs.searching.label_word.Goals as goal
use Rattle.saga_closure.proofs.searching.label_word.Goals.{In-loop-rest, After-index}

lowest : (c : In-loop-rest) → (trailing_zeros w64 c.loop-rest.rest < 64) × (holds_bit c.loop-rest.rest (trailing_zeros w64 c.loop-rest.rest) ≡ true)
lowest c = lowest_bit c.loop-rest.rest (omega arith) (omega (arith, c.loop-rest.invariant.fits, c.ranges.word.fits))

short : (c : In-loop-rest) → c.args.at + trailing_zeros w64 c.loop-rest.rest < length c.args.found.now.level.items
short c = c.requires.level (trailing_zeros w64 c.loop-rest.rest) (lowest c).0 (c.loop-rest.invariant.some (trailing_zeros w64 c.loop-rest.rest) (lowest c).0 (lowest c).1)

read : (c : After-index) → c.args.at + trailing_zeros w64 c.loop-rest.rest < length c.args.found.now.level.items → c.index.result.now ≡ get_or c.loop-rest.found.level.items (c.args.at + trailing_zeros w64 c.loop-rest.rest) 0
read c lt = c.index.ensures ∙ get_or_default c.loop-rest.found.level.items _ c.index.result.now 0 (omega (arith, lt, c.loop-rest.invariant.grown.sized))

pub loop-rest-init : goal.loop-rest-init
loop-rest-init c = word_begun c.args.at c.args.word c.args.level c.args.found.now

pub put_bit-rest-requires : goal.put_bit-rest-requires
put_bit-rest-requires c = (lowest (goal.at.put_bit-rest-requires c).In-loop-rest).0

pub overflow_add-u : goal.overflow_add-u
overflow_add-u c = omega (arith, short (goal.at.overflow_add-u c).In-loop-rest, c.requires.few)

pub overflow_cast-u : goal.overflow_cast-u
overflow_cast-u c = omega (arith, short (goal.at.overflow_cast-u c).In-loop-rest, c.requires.few)

pub overflow_cast-u-in-loop-rest : goal.overflow_cast-u-in-loop-rest
overflow_cast-u-in-loop-rest c = omega (arith, short (goal.at.overflow_cast-u-in-loop-rest c).In-loop-rest, c.requires.few)

pub index-requires : goal.index-requires
index-requires c = omega (arith, short (goal.at.index-requires c).In-loop-rest, c.loop-rest.invariant.grown.sized, c.loop-rest.found.level.ok.0)

pub label-requires-clause-level : goal.label-requires-clause-level
label-requires-clause-level c = omega (arith, short (goal.at.label-requires-clause-level c).In-loop-rest, c.loop-rest.invariant.grown.sized)

pub label-requires-clause-labelled : goal.label-requires-clause-labelled
label-requires-clause-labelled c = omega (arith, short (goal.at.label-requires-clause-labelled c).In-loop-rest, c.requires.wide, c.loop-rest.invariant.grown.wide)

pub loop-rest-smaller-in-Continue-1 : goal.loop-rest-smaller-in-Continue-1
loop-rest-smaller-in-Continue-1 c =
    let low = lowest (goal.at.loop-rest-smaller-in-Continue-1 c).In-loop-rest in
    cleared_less c.loop-rest.rest _ c.put_bit-rest.result low.0 low.1 c.put_bit-rest.ensures.put (c.put_bit-rest.ensures.less refl)

pub loop-rest-smaller : goal.loop-rest-smaller
loop-rest-smaller c =
    let low = lowest (goal.at.loop-rest-smaller c).In-loop-rest in
    cleared_less c.loop-rest.rest _ c.put_bit-rest.result low.0 low.1 c.put_bit-rest.ensures.put (c.put_bit-rest.ensures.less refl)

pub loop-rest-preserved-in-Continue-1 : goal.loop-rest-preserved-in-Continue-1
loop-rest-preserved-in-Continue-1 c =
    let low = lowest (goal.at.loop-rest-preserved-in-Continue-1 c).In-loop-rest in
    word_labelled c.args.at c.args.word c.args.level c.loop-rest.rest (trailing_zeros w64 c.loop-rest.rest) c.put_bit-rest.result c.args.found.now c.loop-rest.found c.loop-rest.invariant low.0 low.1 c.put_bit-rest.ensures.put (c.put_bit-rest.ensures.less refl) c.label.new.found c.requires.low (short (goal.at.loop-rest-preserved-in-Continue-1 c).In-loop-rest)
    (sym (read (goal.at.loop-rest-preserved-in-Continue-1 c).After-index (short (goal.at.loop-rest-preserved-in-Continue-1 c).In-loop-rest)) ∙ c.if-index.true) c.in_ok-label.ensures

pub loop-rest-preserved : goal.loop-rest-preserved
loop-rest-preserved c =
    let low = lowest (goal.at.loop-rest-preserved c).In-loop-rest in
    word_passed c.args.at c.args.word c.args.level c.loop-rest.rest (trailing_zeros w64 c.loop-rest.rest) c.put_bit-rest.result c.args.found.now c.loop-rest.found c.loop-rest.invariant low.0 low.1 c.put_bit-rest.ensures.put (c.put_bit-rest.ensures.less refl)
    (λ is. c.if-index.false (read (goal.at.loop-rest-preserved c).After-index (short (goal.at.loop-rest-preserved c).In-loop-rest) ∙ is))
