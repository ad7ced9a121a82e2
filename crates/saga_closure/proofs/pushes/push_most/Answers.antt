-- What the path carries can go over it, and is the greatest such amount since it is below 2^63.
use Rattle.std.proofs.Common.{◌<◌, ◌^◌, get_or, arith}
use Rattle.saga_flow.proofs.AmountLemmas.{can_from_carries}
use Rattle.saga_closure.specs.Nets.{arcs_in}
use Rattle.saga_closure.proofs.pushes.push_most.Goals as goal

pub push-requires-clause-fits : goal.push-requires-clause-fits
push-requires-clause-fits c =
    λ k d h. can_from_carries (arcs_in c.args.net.now) c.args.on.now (get_or c.args.path.now k d) c.most_along-more.result c.requires.sized (c.most_along-more.ensures.carries k d h)
    (c.requires.fits c.most_along-more.result c.most_along-more.ensures.carries _)

pub returns : goal.returns
returns c =
    let small : c.most_along-more.result < 2 ^ 63 = omega (arith, c.requires.fits c.most_along-more.result c.most_along-more.ensures.carries 0) in
    record {
      some = c.most_along-more.ensures.some;
      carries = c.most_along-more.ensures.carries;
      most = c.most_along-more.ensures.most small;
      adds = c.push.ensures;
    }
