use Rattle.std.proofs.Common.{rules, arith, ◌≡◌, ◌++◌}
use Rattle.saga_texts.specs.Beside.{framed}
use Rattle.saga_texts.proofs.BesideLemmas.{empty_holds_none, holds_none, one_more}
use Rattle.saga_texts.proofs.beside.definitions_of.Goals as goal

pub loop-left-preserved : goal.loop-left-preserved
loop-left-preserved c =
    let begins : c.loop-left.left.now ≡ framed c.in-Some.text.now ++ c.in-Some.more.now = search rules in
    one_more c.args.file.now c.loop-left.left.now c.in-Some.more.now c.loop-left.texts.items c.push.new.self.items c.in-Some.text c.in_ok-push.ensures.items c.loop-left.invariant
    begins

pub returns-then-file-eq0-clause-none : goal.returns-then-file-eq0-clause-none
returns-then-file-eq0-clause-none c = empty_holds_none c.args.file.now (omega (arith, c.if-file-eq0.true))

pub returns-in_default-clause-none : goal.returns-in_default-clause-none
returns-in_default-clause-none c =
    holds_none c.args.file.now c.loop-left.left.now c.loop-left.texts.items (omega (arith, c.if-file-eq0.false)) c.loop-left.invariant (search rules) (search rules)
