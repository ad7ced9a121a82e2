use Rattle.std.proofs.Common.{[], inl, inr, refl, subst, sym}
use Rattle.saga_views.specs.Shown.{TellsSaga}
use Rattle.saga_drive.specs.declared.requests.Request.TheVariants as request
use Rattle.saga_drive.proofs.BookLemmas.{gains_none, refuse}
use Rattle.saga_drive.proofs.questions.show.Goals as goal

pub returns-in-None : goal.returns-in-None
returns-in-None c =
    let none = rw c.in-None.is at c.in_ok-show_text.ensures in
    refuse c.args.book.now c.args.book.now (request.Show c.args.saga) _ refl refl (inr (none, record { none = refl; text_is = refl }))

pub returns-in-Some : goal.returns-in-Some
returns-in-Some c =
    let shown = rw c.in-Some.is at c.in_ok-show_text.ensures in
    record {
      gained = [];
      gains = gains_none c.args.book.now c.told.result c.told.ensures.lines;
      meets = inl (record { none = refl; told = subst (TellsSaga c.args.book.now c.args.saga) (sym c.told.ensures.text) shown });
    }
