use Rattle.std.proofs.Common.{◌≡◌, ◌∙◌, ◌+◌, ◌≤◌, ap, false, inl, inr, length, refl, subst, sym, true}
use Rattle.saga_drive.proofs.BookLemmas.{refuse}
use Rattle.saga_drive.proofs.KnownLemmas.{no_step, of_saga}
use Rattle.saga_drive.specs.Attempts.{IsMeant, IsMeantAttempt, IsNotTaken, IsOtherAttempt}
use Rattle.saga_drive.specs.declared.requests.Request.TheVariants as request
use Rattle.saga_drive.proofs.reports.report.Goals as goal

pub returns-then-not-has_step-clause-ok : goal.returns-then-not-has_step-clause-ok
returns-then-not-has_step-clause-ok c =
    let book = c.args.book.now in
    let saga = c.in-Some.found in
    let past_all = no_step c.args.step (length saga.definition.steps) c.if-not-has_step.ensures in
    refuse book book (request.Report c.args.saga c.args.step c.args.meant c.args.outcome) _ refl refl
    (inr (inr (inl (of_saga book c.args.saga saga (λ d l. length d.steps ≤ c.args.step) c.in-Some.ensures past_all, record { none = refl; text_is = refl }))))

pub returns-in_default-on_its_way-clause-ok : goal.returns-in_default-on_its_way-clause-ok
returns-in_default-on_its_way-clause-ok c =
    let book = c.args.book.now in
    let idle = rw c.state.ensures at c.in_default-on_its_way.ensures in
    refuse book book (request.Report c.args.saga c.args.step c.args.meant c.args.outcome) _ refl refl
    (inr (inr (inr (inl (
      of_saga book c.args.saga c.in-Some.found (λ d l. IsNotTaken d l c.args.step) c.in-Some.ensures (c.if-not-has_step.ensures.0 refl, idle.0, idle.1),
      record { none = refl; text_is = refl },
    )))))

pub returns-then-not-is_meant-clause-ok : goal.returns-then-not-is_meant-clause-ok
returns-then-not-is_meant-clause-ok c =
    let book = c.args.book.now in
    let kind = c.in-Some-on_its_way.kind in
    let number = ap (λ n. n + 1) (c.from-number.ensures ∙ c.missed.ensures) in
    refuse book book (request.Report c.args.saga c.args.step c.args.meant c.args.outcome) _ refl refl
    (inr (inr (inr (inr (
      of_saga book c.args.saga c.in-Some.found (λ d l. IsOtherAttempt c.args.meant d l c.args.step) c.in-Some.ensures
          (record {
            is_step = c.if-not-has_step.ensures.0 refl;
            kind = kind;
            busy = sym c.state.ensures ∙ c.in-Some-on_its_way.ensures;
            other = λ is. absurd (let no : false ≡ true = c.if-not-is_meant.ensures.1 (subst (λ n. IsMeant c.args.meant kind n) (sym number) is) in cc);
          }),
      record { none = refl; text_is = refl },
    )))))

pub end-requires : goal.end-requires
end-requires c =
    let kind = c.in-Some-on_its_way.kind in
    let number = ap (λ n. n + 1) (c.from-number.ensures ∙ c.missed.ensures) in
    of_saga c.args.book.now c.args.saga c.in-Some.found (λ d l. IsMeantAttempt c.args.meant kind d l c.args.step) c.in-Some.ensures
    (record {
      is_step = c.if-not-has_step.ensures.0 refl;
      busy = sym c.state.ensures ∙ c.in-Some-on_its_way.ensures;
      is_meant = subst (λ n. IsMeant c.args.meant kind n) number (c.if-not-is_meant.ensures.0 refl);
    })
