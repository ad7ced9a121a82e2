use Rattle.std.proofs.Common.{◌≡◌, map, take}
use Rattle.saga_desk.specs.Finish.{events_of}
use Rattle.saga_texts.proofs.runs.histories_of.Given as goal

abbrev pub invariant-loop-book : goal.invariant-loop-book
invariant-loop-book l = map (λ h. h.now) l.histories.items ≡ events_of (take l.book-index l.books)
