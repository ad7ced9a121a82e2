use Rattle.std.proofs.Common.{inr, refl}
use Rattle.saga_drive.proofs.BookLemmas.{refuse}
use Rattle.saga_drive.specs.declared.requests.Request.TheVariants as request
use Rattle.saga_drive.proofs.answers.abort.Goals as goal

pub returns-in-Err-NotNow-clause-ok : goal.returns-in-Err-NotNow-clause-ok
returns-in-Err-NotNow-clause-ok c =
    refuse c.args.book.now c.abort.new.self (request.Abort c.args.saga) _ c.in-Err-NotNow.ensures.err refl
    (inr (inr (rw c.in-Err-NotNow.field-0-is at c.in-Err-NotNow.ensures.why, record { none = refl; text_is = refl })))
