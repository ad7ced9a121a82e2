use Rattle.std.proofs.Common.{◌≡◌, ◌∙◌, ℕ, ◌+◌, ◌-◌, ◌<◌, ◌∷◌, List, ap, arith, eqb, get_or, length, subst, sym, take, true}
use Rattle.std.proofs.lemmas.Bool.{eq-eqb}
use Rattle.saga_history.specs.declared.events.Event.{Event}
use Rattle.saga_history.specs.Changes.{change_of, changes, opens, past, saga_of}
use Rattle.saga_history.specs.Rules.{IsLegalSaga}
use Rattle.saga_views.specs.Shown.{last_answer}
use Rattle.saga_views.proofs.ShownLemmas.{back_own, legal_back, nothing_before}
use Rattle.saga_views.proofs.shown.last_answer.Goals as goal

pub returns-in-Open : goal.returns-in-Open
returns-in-Open c =
    let i : ℕ = c.args.saga in
    let shelf = c.args.book.now.shelf in
    let h : List Event = c.args.book.now.history in
    let k : ℕ = c.loop-left.left - 1 in
    let e : Event = c.index-history-left.result in
    let rest = changes i (past (take k h)) in
    let more : c.loop-left.left ≡ k + 1 = omega arith in
    let within : k < length h = omega arith in
    let at : get_or h k e ≡ e = sym (c.index-history-left.is ∙ ap (λ (xs : List Event). get_or xs k e) c.history-history.ensures.value) in
    let own : eqb i (saga_of e) ≡ true = eq-eqb i (saga_of e) (sym c.if-saga.true ∙ c.saga.ensures) in
    let opened : changes i (past (take (k + 1) h)) ≡ opens c.in-Open.field-1 ∷ rest = back_own i h k e within at own ∙ ap (λ (v : Event). change_of v ∷ rest) c.in-Open.is in
    let legal : IsLegalSaga shelf (opens c.in-Open.field-1 ∷ rest) = subst (IsLegalSaga shelf) opened (legal_back shelf i h (k + 1) c.history-history.ensures.legal) in
    sym (c.loop-left.invariant.same
    ∙ (ap (λ (n : ℕ). last_answer (changes i (past (take n h)))) more
    ∙ (ap last_answer opened
    ∙ nothing_before shelf i c.in-Open.field-1 rest legal)))
