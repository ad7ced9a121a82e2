use Rattle.saga_drive.proofs.ResponseLemmas.{response_keeps_shelf, response_logs}
use Rattle.saga_drive.proofs.answers.respond.Goals as goal

pub returns-clause-shelf : goal.returns-clause-shelf
returns-clause-shelf c =
    response_keeps_shelf c.args.book.now c.response_to-response.new.book c.args.room c.args.line.now c.response_to-response.result c.response_to-response.ensures

pub returns-clause-log : goal.returns-clause-log
returns-clause-log c =
    response_logs c.args.book.now c.response_to-response.new.book c.args.room c.args.line.now c.response_to-response.result c.response_to-response.ensures
    c.history-history.ensures.legal
