use Rattle.std.proofs.Common.{get_or, ◌<◌, ℕ}
use Rattle.saga_core.specs.Book.{Book}
use Rattle.saga_history.specs.Merges.{IsNumbered}
use Rattle.saga_work.proofs.runs.are_numbered.Given as goal

abbrev pub invariant-loop-i : goal.invariant-loop-i
invariant-loop-i l =
    (k : ℕ) → k < l.i → (d : Book) → IsNumbered (get_or l.books k d).first (get_or l.books k d).stride (get_or l.books k d).history
