-- A step of the path is over an arc.
use Rattle.std.proofs.Common.{false, arith}
use Rattle.saga_closure.specs.Nets.{terms_in}
use Rattle.saga_closure.proofs.ArcLemmas.{arcs_sized}
use Rattle.saga_closure.proofs.walking.put_back.Goals as goal

pub ends-requires-clause-inside : goal.ends-requires-clause-inside
ends-requires-clause-inside c = omega (arith, c.requires.steps c.loop-over.over-index (record { arc = 0; forward = false }) c.loop-over-test.true, arcs_sized (terms_in c.args.net.now))
