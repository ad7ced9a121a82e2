use Rattle.std.proofs.Common.{◌≡◌, ℕ, ◌+◌, get_or}
use Rattle.std.specs.Prelude.{◌==◌, ◌&&◌}
use Rattle.std.specs.List.{list_any, range_with_len}
use Rattle.std.specs.HashSet.{contains}
use Rattle.saga_draw.proofs.marks.links_of.Given as goal

abbrev pub invariant-loop-place : goal.invariant-loop-place
invariant-loop-place l =
    (s o : ℕ) → contains (λ x y. x.0 == y.0 && x.1 == y.1) l.links (s, o)
    ≡ list_any (λ k. get_or l.chain k 0 == s && get_or l.chain (k + 1) 0 == o) (range_with_len 0 l.place)
