use Rattle.std.proofs.Common.{[], refl, subst, sym}
use Rattle.saga_views.specs.Ready.{TellsReady}
use Rattle.saga_drive.proofs.BookLemmas.{gains_none}
use Rattle.saga_drive.proofs.questions.ready.Goals as goal

pub returns : goal.returns
returns c = record {
  gained = [];
  gains = gains_none c.args.book.now c.told.result c.told.ensures.lines;
  meets = record { none = refl; told = subst (TellsReady c.args.book.now c.args.from) (sym c.told.ensures.text) c.in_ok-ready_text.ensures };
}
