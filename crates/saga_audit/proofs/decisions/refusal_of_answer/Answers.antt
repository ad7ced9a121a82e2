use Rattle.std.proofs.Common.{◌≡◌, subst, sym, refl, ap, rules}
use Rattle.saga_case.specs.Situation.{Situation}
use Rattle.saga_case.specs.Terms.{terms_of}
use Rattle.saga_case.specs.Right.{IsRight}
use Rattle.saga_history.specs.declared.turns.Turn.TheVariants.{Planning}
use Rattle.saga_audit.specs.Reasons.{reason_of_adoption}
use Rattle.saga_audit.proofs.decisions.refusal_of_answer.Goals as goal

pub returns-in-Ok : goal.returns-in-Ok
returns-in-Ok c =
    let now : c.args.row.now.turn ≡ Planning = search rules in
    (now, subst (λ (s : Situation). IsRight (terms_of s) c.args.answer.now) c.in_ok-case.ensures (c.in-Ok.ensures.right.0 refl))

pub returns : goal.returns
returns c =
    let now : c.args.row.now.turn ≡ Planning = search rules in (
      λ may. let bad = c.in-Err.ensures.right.1 (subst (λ (s : Situation). IsRight (terms_of s) c.args.answer.now) (sym c.in_ok-case.ensures) may.1) in cc,
      sym (ap reason_of_adoption now),
    )
