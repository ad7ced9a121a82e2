use Rattle.std.proofs.Common.{◌≡◌, ◌*◌, ◌≤◌}
use Rattle.saga_def.specs.Order.{member}
use Rattle.saga_def.specs.declared.steps.Price.TheVariants.{Of}
use Rattle.saga_case.specs.Terms.{terms_of, price_in, prices_below}
use Rattle.saga_case.specs.Limits.{max_step_price}
use Rattle.saga_case.proofs.cases.Case.cost.Given as goal

abbrev pub invariant-loop-i : goal.invariant-loop-i
invariant-loop-i l = record {
  so_far : prices_below l.i (price_in (terms_of l.self) (member l.set)) ≡ Of l.total;
  bounded : l.total ≤ l.i * max_step_price;
}
