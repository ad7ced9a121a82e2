-- Every amount that the path carries fits with the value, so with each amount.
use Rattle.std.proofs.Common.{arith}
use Rattle.saga_flow.proofs.rounds.augment.Goals as goal

pub push_most-requires-clause-carries : goal.push_most-requires-clause-carries
push_most-requires-clause-carries c = rw c.as_mut_slice.ensures.value c.requires.carries

pub push_most-requires-clause-fits : goal.push_most-requires-clause-fits
push_most-requires-clause-fits c =
    rw c.as_mut_slice.ensures.value (λ more all k. omega (arith, c.requires.limit k, c.requires.fits more all))

pub overflow_add-progress : goal.overflow_add-progress
overflow_add-progress c =
    let carried = rw c.as_mut_slice.ensures.value at c.push_most.ensures.carries in
    omega (arith, c.requires.fits c.push_most.result carried)
