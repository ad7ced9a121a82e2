use Rattle.std.proofs.Common.{rules}
use Rattle.saga_c.proofs.SessionLemmas.{run}
use Rattle.saga_c.proofs.sessions.Session.answer.Goals as goal

pub returns : goal.returns
returns c =
    run _ (record c.args.self.now { book = c.answer-reply.new.book; room = c.saturating_sub-self.result }) _ _ _ _ c.answer-reply.result _ (search rules)
    (record { answer = search rules; log = c.answer-reply.ensures.log; keeps = c.answer-reply.ensures.keeps; room = search rules }) c.hand.ensures.put c.hand.ensures.book c.hand.ensures.room
