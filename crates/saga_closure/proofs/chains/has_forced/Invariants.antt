use Rattle.std.proofs.Common.{ℕ, ◌≡◌, ◌<◌, ◌^◌, get_or}
use Rattle.saga_closure.proofs.chains.has_forced.Given as goal

abbrev pub invariant-loop-v : goal.invariant-loop-v
invariant-loop-v l = (s : ℕ) → s < l.v → get_or l.net.caps.now s 0 ≡ 2 ^ 63 → ⊥
