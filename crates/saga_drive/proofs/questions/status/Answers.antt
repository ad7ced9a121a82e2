use Rattle.std.proofs.Common.{[], refl, subst, sym}
use Rattle.saga_views.specs.Status.{TellsStatus}
use Rattle.saga_drive.proofs.BookLemmas.{gains_none}
use Rattle.saga_drive.proofs.questions.status.Goals as goal

pub returns : goal.returns
returns c = record {
  gained = [];
  gains = gains_none c.args.book.now c.told.result c.told.ensures.lines;
  meets = record { none = refl; told = subst (TellsStatus c.args.book.now) (sym c.told.ensures.text) c.in_ok-status_text.ensures };
}
