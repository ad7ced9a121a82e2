use Rattle.std.proofs.Common.{ℕ, ◌<◌, ◌≡◌, Some}
use Rattle.std.specs.List.{slice_get}
use Rattle.saga_core.specs.Book.{Book}
use Rattle.saga_desk.specs.Finish.{KeepsLegalHistory}
use Rattle.saga_desk.proofs.desks.finish.see_histories.Given as goal

abbrev pub invariant-loop-i : goal.invariant-loop-i
invariant-loop-i l = (k : ℕ) (b : Book) → k < l.i → slice_get l.books k ≡ Some b → KeepsLegalHistory b
