use Rattle.std.proofs.Common.{◌<◌, ◌≤◌, arith, refl}
use Rattle.saga_drive.proofs.PlainLemmas.{one-line, next-line}
use Rattle.saga_drive.proofs.plain.next.Goals as goal

pub returns-then-is_same : goal.returns-then-is_same
returns-then-is_same c = one-line c.args.line.now c.in_ok-rest.rest.now c.in_ok-rest.ensures (c.if-is_same.ensures.0 refl)

pub returns : goal.returns
returns c =
    let most = c.in_ok-most in
    let some : 0 < most.most = omega arith in
    let not_many : most.most ≤ 1000 = omega arith in
    next-line c.args.line.now c.in_ok-rest.rest.now most.rest.now most.most
    c.in_ok-rest.ensures most.ensures.text (c.if-not-is_same.ensures.0 refl) some not_many most.ensures.small
