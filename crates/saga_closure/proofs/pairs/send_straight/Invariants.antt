use Rattle.std.proofs.Common.{ℕ, ◌<◌, ◌^◌}
use Rattle.saga_closure.specs.Apart.{IsOneSided}
use Rattle.saga_closure.specs.Largest.{IsOnTheWay}
use Rattle.saga_closure.specs.Nets.{terms_in}
use Rattle.saga_closure.proofs.pairs.send_straight.Given as goal

abbrev pub invariant-loop-v : goal.invariant-loop-v
invariant-loop-v l = record {
  progress : IsOnTheWay (terms_in l.net) l.progress;
  small : l.progress.value < 2 ^ 63;
  one_sided : (w : ℕ) → w < l.v → IsOneSided l.net.caps.now l.progress.on.items (terms_in l.net).count w;
}
