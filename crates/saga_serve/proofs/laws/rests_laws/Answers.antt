use Rattle.std.proofs.Common.{[]}
use Rattle.saga_serve.proofs.RestLemmas.{each_at}
use Rattle.saga_serve.proofs.laws.rests_laws.Goals as goal

pub returns-clause-each : goal.returns-clause-each
returns-clause-each c = λ origin earlier later text log all. each_at origin [] earlier later text log all

pub returns-clause-history : goal.returns-clause-history
returns-clause-history c = λ origin written log rests. (rests.book, rests.covers, c.history_survives.ensures.reads rests.book log rests.logged)
