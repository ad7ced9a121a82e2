use Rattle.std.proofs.Common.{arith, length}
use Rattle.std.proofs.lemmas.Bool.{false_from_ne_true}
use Rattle.saga_bytes.proofs.LineLemmas.{split_found, split_missed, nonempty}
use Rattle.saga_bytes.proofs.lines.split_line.Goals as goal

pub returns-in-Some-clause-lines : goal.returns-in-Some-clause-lines
returns-in-Some-clause-lines c =
    split_found c.args.text.now c.in-Some.end c.in-Some.ensures.0.high (λ k l. false_from_ne_true _ (c.in-Some.ensures.0.before k (omega arith) l)) c.in-Some.ensures.1

pub returns-in-None-clause-lines : goal.returns-in-None-clause-lines
returns-in-None-clause-lines c =
    split_missed c.args.text.now (nonempty (length c.args.text.now) c.if-is_empty.ensures) (λ k l. false_from_ne_true _ (c.in-None.ensures k (omega arith) l))
