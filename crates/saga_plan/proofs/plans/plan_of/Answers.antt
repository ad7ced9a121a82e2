-- The three groups are what the flow's amounts are split into.
use Rattle.std.proofs.Common.{◌∙◌, ap, take, drop, refl}
use Rattle.saga_plan.proofs.plans.plan_of.Goals as goal

pub returns : goal.returns
returns c =
    let rest = c.split_at.ensures.back ∙ ap (drop c.args.steps) c.as_slice.ensures.value in
    record {
      kept = c.new.ensures;
      cost = refl;
      leave = c.in_ok-new.ensures ∙ c.split_at.ensures.front ∙ ap (take c.args.steps) c.as_slice.ensures.value;
      stand = c.in_ok-new-2.ensures ∙ c.split_at-2.ensures.front ∙ ap (take c.args.steps) rest;
      links = c.in_ok-new-3.ensures ∙ c.split_at-2.ensures.back ∙ ap (drop c.args.steps) rest;
    }
