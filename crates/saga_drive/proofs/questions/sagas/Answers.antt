use Rattle.std.proofs.Common.{[], refl, subst, sym}
use Rattle.saga_views.specs.Lists.{TellsList}
use Rattle.saga_drive.proofs.BookLemmas.{gains_none}
use Rattle.saga_drive.proofs.questions.sagas.Goals as goal

pub returns : goal.returns
returns c = record {
  gained = [];
  gains = gains_none c.args.book.now c.told.result c.told.ensures.lines;
  meets = record { none = refl; told = subst (TellsList c.args.book.now c.args.from c.args.phase) (sym c.told.ensures.text) c.in_ok-list_text.ensures };
}
