use Rattle.std.proofs.Common.{get_or, inl, inr, arith}
use Rattle.std.proofs.lemmas.Bool.{cases_eq}
use Rattle.std.proofs.lemmas.List.{get_or_default}
use Rattle.std.proofs.lemmas.Nat.{le_or_l, le_or_r}
use Rattle.saga_case.proofs.amounts.bits_of.Goals as goal

pub loop-amount-preserved : goal.loop-amount-preserved
loop-amount-preserved c = λ k lt. elim (cases_eq k c.loop-amount.amount-index) [
  | inl e ↦ rw e (le_or_r c.loop-amount.bits (get_or c.args.amounts.now c.loop-amount.amount-index 0))
  | inr ne ↦ omega (arith, c.loop-amount.invariant k (omega (arith, lt, ne)), le_or_l c.loop-amount.bits (get_or c.args.amounts.now c.loop-amount.amount-index 0))
]

pub returns : goal.returns
returns c = λ k d lt. rw (get_or_default c.args.amounts.now k d 0 lt) (c.loop-amount.invariant k (omega (arith, lt, c.loop-amount-test.false)))
