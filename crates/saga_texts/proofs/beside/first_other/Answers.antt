use Rattle.std.proofs.Common.{rules, arith}
use Rattle.saga_texts.proofs.BesideLemmas.{one_less, same_more}
use Rattle.saga_texts.proofs.beside.first_other.Goals as goal

pub loop-place-preserved : goal.loop-place-preserved
loop-place-preserved c = (
  omega (arith, c.if-place-stored.false),
  same_more c.args.stored.now c.args.given.now c.loop-place.place _ _ (omega (arith, c.if-place-stored.false)) c.loop-place-test.true c.loop-place.invariant.1
      (c.is_same.ensures.0 (search rules)),
)

pub returns-then-given-stored-clause-other : goal.returns-then-given-stored-clause-other
returns-then-given-stored-clause-other c =
    one_less c.args.stored.now c.args.given.now c.loop-place.place (search rules) c.loop-place.invariant.1 c.if-given-stored.true
