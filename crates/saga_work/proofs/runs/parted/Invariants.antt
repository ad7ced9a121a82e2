use Rattle.std.proofs.Common.{◌≡◌, ◌≤◌, ◌+◌, ◌∷◌, ◌++◌, length, map, vec_len}
use Rattle.std.specs.Vec.{vec_capacity}
use Rattle.std.specs.Vec.Iter.{into_iter_items, into_iter_len}
use Rattle.saga_work.specs.Faults.{first_stop}
use Rattle.saga_work.proofs.runs.parted.Given as goal

abbrev pub invariant-loop-seat : goal.invariant-loop-seat
invariant-loop-seat l =
    goal.iterator-loop-seat.can_next l.seat-iterator ×
    goal.iterator-loop-seat.is_finite l.seat-iterator ×
    (vec_len l.back + length (into_iter_items l.seat-iterator) ≤ vec_capacity l.back) ×
    (l.back.items ++ map (λ p. p.0) (into_iter_items l.seat-iterator) ≡ map (λ p. p.0) (into_iter_items l.initial.seat-iterator)) ×
    (length (into_iter_items l.seat-iterator) ≡ into_iter_len l.seat-iterator) ×
    (first_stop (l.stopped ∷ map (λ p. p.1) (into_iter_items l.seat-iterator)) ≡ first_stop (map (λ p. p.1) (into_iter_items l.initial.seat-iterator)))
