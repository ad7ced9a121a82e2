use Rattle.std.proofs.Common.{◌≡◌, ◌≤◌, length, take}
use Rattle.saga_history.specs.Changes.{changes, past}
use Rattle.saga_views.specs.Shown.{last_answer}
use Rattle.saga_views.proofs.shown.last_answer.Given as goal

abbrev pub invariant-loop-left : goal.invariant-loop-left
invariant-loop-left l = record {
  within : l.left ≤ length l.book.history;
  same : last_answer (changes l.saga (past l.book.history)) ≡ last_answer (changes l.saga (past (take l.left l.book.history)));
}

abbrev pub decreases-loop-left : goal.decreases-loop-left
decreases-loop-left l = l.left
