use Rattle.std.proofs.Common.{◌∙◌, ◌++◌, [], ap, ℕ, List}
use Rattle.saga_core.specs.Book.{number}
use Rattle.saga_views.specs.Busy.{busy_of}
use Rattle.saga_views.proofs.RangeLemmas.{flat_more}
use Rattle.saga_views.proofs.busy.busy_texts.Goals as goal

pub loop-place-preserved : goal.loop-place-preserved
loop-place-preserved c =
    let book = c.args.book.now in
    let tasks : ℕ → List (List ℕ) = λ k. busy_of book (number book.first book.stride k) in
    (rw (c.first-first.ensures.value, c.stride-stride.ensures.value) at c.in_ok-push_busy_saga.ensures)
    ∙ (ap (λ t. t ++ tasks c.loop-place.place) c.loop-place.invariant ∙ flat_more tasks [] c.loop-place.place)
