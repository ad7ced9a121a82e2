use Rattle.saga_drive.proofs.LogLemmas.{answer_keeps}
use Rattle.saga_drive.proofs.ResponseLemmas.{answer_keeps_shelf}
use Rattle.saga_drive.proofs.RoomLawLemmas.{keeps_room}
use Rattle.saga_drive.proofs.answers.answer.Goals as goal

pub returns-clause-log : goal.returns-clause-log
returns-clause-log c = answer_keeps c.args.book.now c.answer_to-reply.new.book c.args.room c.args.line.now c.answer_to-reply.result c.answer_to-reply.ensures c.history-history.ensures.legal

pub returns-clause-keeps : goal.returns-clause-keeps
returns-clause-keeps c =
    keeps_room c.args.book.now c.answer_to-reply.new.book c.args.room c.args.line.now c.answer_to-reply.result c.answer_to-reply.ensures
    c.history-before.ensures.legal (rw c.shelf.ensures at c.are_sound.ensures) c.history-before.ensures.numbered

pub returns-clause-shelf : goal.returns-clause-shelf
returns-clause-shelf c =
    answer_keeps_shelf c.args.book.now c.answer_to-reply.new.book c.args.room c.args.line.now c.answer_to-reply.result c.answer_to-reply.ensures
