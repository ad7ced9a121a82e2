use Rattle.std.specs.Prelude.{Ok}
use Rattle.saga_text.specs.Reads.{Reads}
use Rattle.saga_texts.proofs.ListLemmas.{text_here, zip_more}
use Rattle.saga_texts.proofs.ShelfLemmas.{first_faulty}
use Rattle.saga_texts.proofs.shelves.read_shelf.Goals as goal

pub returns-in-Err-clause-fault : goal.returns-in-Err-clause-fault
returns-in-Err-clause-fault c =
    rw c.at_place.ensures (first_faulty c.args.texts.now c.loop-place.place _ c.in-Err.why c.loop-place.shelf.items c.loop-place-test.true c.loop-place.invariant c.in-Err.ensures.reads)

pub loop-place-preserved : goal.loop-place-preserved
loop-place-preserved c =
    rw c.in_ok-push-in-Ok.ensures.items
    (zip_more (λ text d. Reads text (Ok d)) _ c.loop-place.shelf.items c.loop-place.place _ c.in-Ok.definition
    (text_here c.args.texts.now c.loop-place.place _ c.loop-place-test.true) c.loop-place.invariant c.in-Ok.ensures.reads)
