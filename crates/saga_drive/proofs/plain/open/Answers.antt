use Rattle.std.proofs.Common.{refl}
use Rattle.saga_drive.proofs.PlainLemmas.{open-line}
use Rattle.saga_drive.proofs.plain.open.Goals as goal

pub returns : goal.returns
returns c =
    let index = c.in_ok-index in
    let saga = c.in_ok-saga in
    open-line c.args.line.now index.rest.now saga.rest.now index.index saga.saga
    index.ensures.text saga.ensures.text (c.if-not-is_same.ensures.0 refl) index.ensures.small saga.ensures.small
