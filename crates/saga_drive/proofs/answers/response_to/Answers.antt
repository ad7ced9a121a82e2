use Rattle.saga_drive.proofs.ResponseLemmas.{response_to_fault, response_to_other}
use Rattle.saga_drive.proofs.answers.response_to.Goals as goal

pub returns-in_default : goal.returns-in_default
returns-in_default c =
    response_to_other c.args.book.now c.reply_to.new.book c.args.room c.args.line.now c.in-Ok.request c.reply_to.result c.in-Ok.ensures c.in_default.not-Define c.reply_to.ensures
