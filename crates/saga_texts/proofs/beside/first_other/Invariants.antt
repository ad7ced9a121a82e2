use Rattle.std.proofs.Common.{◌≡◌, ◌≤◌, length, map, take}
use Rattle.saga_texts.proofs.beside.first_other.Given as goal

abbrev pub invariant-loop-place : goal.invariant-loop-place
invariant-loop-place l = (l.place ≤ length l.stored) × (take l.place (map (λ t. t.now) l.stored) ≡ take l.place (map (λ t. t.now) l.given))
