use Rattle.std.proofs.Common.{◌≡◌, ◌∙◌, arith, false, inl, inr, refl, subst, true}
use Rattle.saga_history.specs.declared.events.Event.TheVariants as event
use Rattle.saga_core.specs.Book.{with_event}
use Rattle.saga_drive.proofs.BookLemmas.{refuse}
use Rattle.saga_drive.proofs.ReportLemmas.{not_next, opened_by, wanted_within}
use Rattle.saga_drive.specs.declared.requests.Request.TheVariants as request
use Rattle.saga_drive.proofs.answers.open.Goals as goal

pub returns-in_default-clause-ok : goal.returns-in_default-clause-ok
returns-in_default-clause-ok c =
    inl (
      refuse c.args.book.now c.args.book.now (request.Open c.args.wanted c.args.saga) _ refl refl
          (inr (inl (rw c.shelf.ensures at c.in_default.ensures, record { none = refl; text_is = refl }))),
      inl refl,
    )

pub returns-then-not-is_next-clause-ok : goal.returns-then-not-is_next-clause-ok
returns-then-not-is_next-clause-ok c =
    let other = not_next c.args.saga c.args.book.now (λ is. absurd (let no : false ≡ true = c.if-not-is_next.ensures.1 is in cc)) in
    inl (
      refuse c.args.book.now c.args.book.now (request.Open c.args.wanted c.args.saga) _ refl refl
          (inr (inr (inl ((c.in-Some.definition, rw c.shelf.ensures at c.in-Some.ensures), other, record { none = refl; text_is = refl })))),
      inl refl,
    )

pub returns-then-sagas-ge-MAX_SAGAS-clause-ok : goal.returns-then-sagas-ge-MAX_SAGAS-clause-ok
returns-then-sagas-ge-MAX_SAGAS-clause-ok c =
    let wanted = rw c.shelf.ensures at c.in-Some.ensures in
    inl (
      refuse c.args.book.now c.args.book.now (request.Open c.args.wanted c.args.saga) _ refl refl
          (inr (inr (inr (
            (c.in-Some.definition, wanted, (wanted_within c.args.book.now.shelf c.args.wanted c.in-Some.definition wanted, omega (arith, c.sagas.ensures, c.if-sagas-ge-MAX_SAGAS.true))),
            c.if-not-is_next.ensures.0 refl,
            record { none = refl; text_is = refl },
          )))),
      inl refl,
    )

pub returns-in-Ok-clause-ok : goal.returns-in-Ok-clause-ok
returns-in-Ok-clause-ok c =
    let held = c.in_ok-happening.ensures in
    let opened = c.in-Ok.ensures in
    inl (
      opened_by c.args.book.now c.open.new.self c.args.wanted c.args.saga c.in-Some.definition c.next_number.result c.in-Ok.opened _ c.told.result
          (rw c.shelf.ensures at c.in-Some.ensures) (c.if-not-is_next.ensures.0 refl) c.next_number.ensures opened.number opened.allowed opened.ok
          held.text (c.told.ensures.lines ∙ held.lines) held.back c.told.ensures.text,
      inr (
        c.in-Some.definition,
        subst (λ j. c.open.new.self ≡ with_event c.args.book.now (event.Open j c.in-Some.definition)) opened.number opened.ok,
        c.if-not-has_room.ensures.fits refl,
      ),
    )
