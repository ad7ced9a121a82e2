use Rattle.std.proofs.Common.{ℕ, ◌<◌, ◌≡◌, get_or}
use Rattle.saga_def.specs.Contents.{Contents}
use Rattle.saga_desk.proofs.desks.finish.is_same_shelf.Given as goal

abbrev pub invariant-loop-i : goal.invariant-loop-i
invariant-loop-i l = (k : ℕ) (d : Contents) → k < l.i → get_or l.a k d ≡ get_or l.b k d
