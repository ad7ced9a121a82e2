use Rattle.saga_drive.proofs.ResponseLemmas.{answers_done}
use Rattle.saga_drive.proofs.answers.answer_to.Goals as goal

pub returns-in-Ok : goal.returns-in-Ok
returns-in-Ok c = answers_done c.args.book.now c.reply_to.new.book c.args.room c.args.line.now c.in-Ok.request c.reply_to.result c.in-Ok.ensures c.reply_to.ensures
