-- Smallest plans keep the same steps, and nothing takes no rounds.
use Rattle.std.proofs.Common.{◌≡◌, ◌+◌, ◌*◌, ◌≤◌, Bool, true, false, length, refl, sym, subst, arith}
use Rattle.std.specs.Prelude.{IsTrue}
use Rattle.saga_def.specs.Order.{member}
use Rattle.saga_case.specs.declared.answers.Answer.{Answer}
use Rattle.saga_case.specs.declared.answers.Answer.TheVariants as answer
use Rattle.saga_case.specs.Terms.{Terms}
use Rattle.saga_plan.specs.Laws.{KeepsOneSet, HasNoRoundsForNothing, HasNoRoundsForNoSteps}

-- two truth values of which each gives the other
same : (b c : Bool) → (IsTrue b → IsTrue c) → (IsTrue c → IsTrue b) → b ≡ c
same true true f g = refl
same true false f g = sym (f refl)
same false true f g = g refl
same false false f g = refl

pub keeps_one_set : (t : Terms) → KeepsOneSet t
keeps_one_set t p q least other small smaller s =
    same (member p.kept s) (member q.kept s) (small (member q.kept) other s) (smaller (member p.kept) least s)

pub has_no_rounds_for_nothing : (a : Answer) → HasNoRoundsForNothing a
has_no_rounds_for_nothing (answer.Plan p) rounds free few = omega arith
has_no_rounds_for_nothing (answer.Blocked c) rounds free few = few

pub has_no_rounds_for_no_steps : (t : Terms) (a : Answer) → HasNoRoundsForNoSteps t a
has_no_rounds_for_no_steps t (answer.Plan p) rounds none alone few =
    let bound : rounds ≤ (0 + 2) * (2 * 0 + 0) =
    subst (λ n. rounds ≤ (0 + 2) * (2 * 0 + n)) alone (subst (λ n. rounds ≤ (n + 2) * (2 * n + length t.needs)) none few) in
    omega (arith, bound)
has_no_rounds_for_no_steps t (answer.Blocked c) rounds none alone few = few
