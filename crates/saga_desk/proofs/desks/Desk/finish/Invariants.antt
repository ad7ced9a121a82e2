use Rattle.std.proofs.Common.{◌≡◌, ◌≤◌, ◌+◌, length, vec_len}
use Rattle.std.specs.List.{All}
use Rattle.std.specs.Vec.{vec_capacity}
use Rattle.std.specs.Vec.Iter.{into_iter_items, into_iter_len}
use Rattle.saga_desk.specs.Told.{HoldsTold}
use Rattle.saga_desk.proofs.desks.Desk.finish.Given as goal

abbrev pub invariant-loop-slot : goal.invariant-loop-slot
invariant-loop-slot g l =
    (goal.iterator-loop-slot g).can_next l.slot-iterator
    × (goal.iterator-loop-slot g).is_finite l.slot-iterator
    × (vec_len l.books + length (into_iter_items l.slot-iterator) ≤ vec_capacity l.books)
    × (vec_len l.books + length (into_iter_items l.slot-iterator) ≡ l.count)
    × (length (into_iter_items l.slot-iterator) ≡ into_iter_len l.slot-iterator)
    × All (HoldsTold g.P.Policy.may g.P.Policy.may_abort) l.books.items
