use Rattle.std.proofs.Common.{◌≡◌, ◌≤◌, arith}
use Rattle.saga_drive.proofs.DropLemmas.{drops_none, none_below, one_more}
use Rattle.saga_drive.proofs.LogLemmas.{drops_keep}
use Rattle.saga_drive.specs.declared.replies.Reply.TheVariants.{Told}
use Rattle.saga_drive.specs.Drops.{next_of}
use Rattle.saga_drive.proofs.drops.drop_plans.Goals as goal

pub loop-saga-init : goal.loop-saga-init
loop-saga-init c = (rw c.new-lines.ensures.bytes (drops_none c.args.book.now), none_below c.args.book.now)

pub loop-saga-preserved : goal.loop-saga-preserved
loop-saga-preserved c = (
  c.in_ok-drop_plan.ensures.more c.args.book.now c.loop-saga.invariant.0,
  one_more c.loop-saga.book c.drop_plan.new.book c.loop-saga.saga c.loop-saga.invariant.1 c.in_ok-drop_plan.ensures.others,
)

pub returns-clause-drops : goal.returns-clause-drops
returns-clause-drops c = c.loop-saga.invariant.0

pub returns-clause-none : goal.returns-clause-none
returns-clause-none c i low =
    let all : c.next_number-saga-end.result ≤ c.loop-saga.saga = c.loop-saga-test.false in
    let next : c.next_number-saga-end.result ≡ next_of c.args.book.now = c.next_number-saga-end.ensures in
    c.loop-saga.invariant.1 i (omega arith)

pub returns-clause-log : goal.returns-clause-log
returns-clause-log c = drops_keep c.args.book.now c.loop-saga.book (Told c.new.result c.loop-saga.lines) c.loop-saga.invariant.0 c.history-history.ensures.legal
