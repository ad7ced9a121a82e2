use Rattle.std.proofs.Common.{◌≤◌, length, inl, inr, refl}
use Rattle.saga_drive.proofs.BookLemmas.{neither_may, refuse}
use Rattle.saga_drive.proofs.KnownLemmas.{no_step, of_saga}
use Rattle.saga_drive.specs.declared.requests.Request.TheVariants as request
use Rattle.saga_drive.proofs.answers.take_step.Goals as goal

pub returns-then-not-has_step-clause-ok : goal.returns-then-not-has_step-clause-ok
returns-then-not-has_step-clause-ok c =
    let book = c.args.book.now in
    let saga = c.in-Some.found in
    let past_all = no_step c.args.step (length saga.definition.steps) c.if-not-has_step.ensures in
    refuse book book (request.TakeStep c.args.saga c.args.step) _ refl refl
    (inr (inr (inl (of_saga book c.args.saga saga (λ d l. length d.steps ≤ c.args.step) c.in-Some.ensures past_all, record { none = refl; text_is = refl }))))

pub returns-in_default-kind_of_next-clause-ok : goal.returns-in_default-kind_of_next-clause-ok
returns-in_default-kind_of_next-clause-ok c =
    let book = c.args.book.now in
    let none = c.in_default-kind_of_next.ensures in
    refuse book book (request.TakeStep c.args.saga c.args.step) _ refl refl
    (inr (inr (inr (
      neither_may book c.args.saga c.args.step c.in-Some.found c.in-Some.ensures (c.if-not-has_step.ensures.0 refl) none.0 none.1,
      record { none = refl; text_is = refl },
    ))))
