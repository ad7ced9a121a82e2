use Rattle.std.proofs.Common.{arith}
use Rattle.std.proofs.lemmas.Option.{slice_get_within}
use Rattle.saga_desk.proofs.FinishLemmas.{keep_more}
use Rattle.saga_desk.proofs.desks.finish.see_histories.Goals as goal

pub loop-i-preserved : goal.loop-i-preserved
loop-i-preserved c =
    keep_more c.args.books.now c.loop-i.i c.index-books-i.result c.loop-i-test.true c.index-books-i.is (record { legal = c.history.ensures.legal; numbered = c.history.ensures.numbered }) c.loop-i.invariant

pub returns : goal.returns
returns c = λ i b at. c.loop-i.invariant i b (let within = slice_get_within c.args.books.now i b at in let all = c.loop-i-test.false in omega arith) at
