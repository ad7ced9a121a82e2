use Rattle.std.proofs.Common.{get_or, ◌<◌, ℕ}
use Rattle.saga_core.specs.Book.{Book}
use Rattle.saga_core.specs.Tasks.{AllAreOver}
use Rattle.saga_work.proofs.runs.are_over.Given as goal

abbrev pub invariant-loop-i : goal.invariant-loop-i
invariant-loop-i l = (k : ℕ) → k < l.i → (d : Book) → AllAreOver (get_or l.books k d)
