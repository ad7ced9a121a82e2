use Rattle.std.proofs.Common.{ℕ, ◌≡◌, ◌∙◌, ap, sym, arith, refl, length}
use Rattle.saga_def.specs.Order.{member}
use Rattle.saga_def.specs.declared.steps.Price.{Price}
use Rattle.saga_def.specs.declared.steps.Price.TheVariants.{Of, Never}
use Rattle.saga_case.specs.Situation.{Situation}
use Rattle.saga_case.specs.Terms.{terms_of, price_in}
use Rattle.saga_case.proofs.SumLemmas.{prices_none, prices_more, prices_never}
use Rattle.saga_case.proofs.cases.Case.cost.Goals as goal

pub loop-i-init : goal.loop-i-init
loop-i-init c = record { so_far = prices_none _; bounded = omega arith }

pub returns-in-Never : goal.returns-in-Never
returns-in-Never c =
    let price : ℕ → Price = price_in (terms_of c.args.self.now) (member c.args.set.now) in
    let here : price c.loop-i.i ≡ Never = sym c.in-Never.ensures.exact in
    let count : c.steps-count.result ≡ length c.args.self.now.definition.steps =
    c.steps-count.ensures.count ∙ ap (λ (s : Situation). length s.definition.steps) c.self.view_is in
    sym (prices_never _ c.loop-i.i price (omega (arith, count, c.loop-i-test.true)) here)

pub loop-i-preserved : goal.loop-i-preserved
loop-i-preserved c =
    let price : ℕ → Price = price_in (terms_of c.args.self.now) (member c.args.set.now) in
    let here : price c.loop-i.i ≡ Of c.in-Of.amount = sym c.in-Of.ensures.exact in
    record {
      so_far = prices_more c.loop-i.i price ∙ rw (c.loop-i.invariant.so_far, here) refl;
      bounded = omega (arith, c.loop-i.invariant.bounded, c.in-Of.ensures.bounded);
    }
