use Rattle.std.proofs.Common.{[], refl, inr}
use Rattle.saga_drive.proofs.BookLemmas.{gains_none}
use Rattle.saga_drive.proofs.answers.idle.Goals as goal

pub returns : goal.returns
returns c = record {
  gained = [];
  gains = gains_none c.args.book.now c.in_ok-reply.reply c.in_ok-reply.ensures.lines;
  meets = inr (record {
    none = c.requires;
    settled = c.settled.result;
    settled_is = c.settled.ensures;
    said = record { none = refl; text_is = c.in_ok-reply.ensures.text };
  });
}
