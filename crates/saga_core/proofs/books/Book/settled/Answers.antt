use Rattle.saga_core.proofs.PhaseLemmas.{over_all, over_rows}
use Rattle.saga_core.proofs.books.Book.settled.Goals as goal

pub returns : goal.returns
returns c = rw (← c.self.view_is) (λ so. over_all _ _ _ _ _ c.self.invariant (c.are_over.ensures.0 so), λ over. c.are_over.ensures.1 (over_rows _ _ _ _ _ c.self.invariant over))
