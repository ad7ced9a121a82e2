-- Of the faults of an answer at most one is the first that applies.
use Rattle.std.proofs.Common.{◌≡◌, ℕ, List, [], ◌∷◌, refl, sym, ap, ◌∙◌, get_or}
use Rattle.saga_def.proofs.FirstLemmas.{IsFirstBroken, AreKept, first_broken_once, none_broken}
use Rattle.saga_case.specs.declared.answers.Answer.{Answer}
use Rattle.saga_case.specs.declared.answers.Answer.TheVariants as answer
use Rattle.saga_case.specs.declared.answers.Plan.{Plan}
use Rattle.saga_case.specs.Flow.{IsWithin, IsConserved}
use Rattle.saga_case.specs.Right.{flow_of, HasShape, IsListOfSteps, IsLinked, IsForced, IsForbidden, IsRightPlan, IsRightChain}
use Rattle.saga_case.specs.Terms.{Terms}
use Rattle.saga_check.specs.Faults.{IsFirstPlanFault, IsFirstChainFault, KeepsClosed, HasCost, NamesCost, HasValue}
use Rattle.saga_check.specs.Laws.{HasOneFault, HasNoFault}
use Rattle.saga_check.specs.declared.faults.CheckFault.{CheckFault}
use Rattle.saga_check.specs.declared.faults.CheckFault.TheVariants.{Shape, NotClosed, NotAllowed, WrongCost, OverCapacity, NotConserved, WrongValue, NotForced, NotAChain, NotForbidden}

-- the rules of a plan in the order in which they are looked at, and their faults
abbrev plan_rules : Terms → Plan → List (Type 0)
plan_rules t plan =
    HasShape t plan ∷ KeepsClosed t plan ∷ HasCost t plan ∷ NamesCost t plan ∷ IsWithin t (flow_of plan)
    ∷ IsConserved t (flow_of plan) ∷ HasValue t plan ∷ []

abbrev plan_faults : List CheckFault
plan_faults = Shape ∷ NotClosed ∷ NotAllowed ∷ WrongCost ∷ OverCapacity ∷ NotConserved ∷ WrongValue ∷ []

-- those of a chain
abbrev chain_rules : Terms → List ℕ → List (Type 0)
chain_rules t chain = IsListOfSteps t chain ∷ IsForced t chain ∷ IsLinked t chain ∷ IsForbidden t chain ∷ []

abbrev chain_faults : List CheckFault
chain_faults = Shape ∷ NotForced ∷ NotAChain ∷ NotForbidden ∷ []

-- the fault is the one of a rule that is the first to be broken
record IsAt (rules : List (Type 0)) (faults : List CheckFault) (f : CheckFault) : Type 0 where
  place : ℕ
  broken : IsFirstBroken rules place
  is : f ≡ get_or faults place Shape

once : (rules : List (Type 0)) (faults : List CheckFault) (e f : CheckFault) → IsAt rules faults e → IsAt rules faults f → e ≡ f
once rules faults e f p q =
    p.is ∙ (ap (λ n. get_or faults n Shape) (first_broken_once rules p.place q.place p.broken q.broken) ∙ sym q.is)

-- a cost that is a number is not never
is_number : (t : Terms) (plan : Plan) → NamesCost t plan → HasCost t plan
is_number t plan is never = absurd (cc)

plan_at : (t : Terms) (plan : Plan) (f : CheckFault) → IsFirstPlanFault t plan f → IsAt (plan_rules t plan) plan_faults f
plan_at t plan Shape w = record { place = 0; broken = w; is = refl }
plan_at t plan NotClosed w = record { place = 1; broken = (w.0, w.1); is = refl }
plan_at t plan NotAllowed w = record { place = 2; broken = (w.0, (w.1, w.2)); is = refl }
plan_at t plan WrongCost w = record { place = 3; broken = (w.0, (w.1, (w.2, w.3))); is = refl }
plan_at t plan OverCapacity w = record { place = 4; broken = (w.0, (w.1, (is_number t plan w.2, (w.2, w.3)))); is = refl }
plan_at t plan NotConserved w =
    record { place = 5; broken = (w.0, (w.1, (is_number t plan w.2, (w.2, (w.3, w.4))))); is = refl }
plan_at t plan WrongValue w =
    record { place = 6; broken = (w.0, (w.1, (is_number t plan w.2, (w.2, (w.3, (w.4, w.5)))))); is = refl }
plan_at t plan NotForced w = absurd w
plan_at t plan _ w = absurd w

chain_at : (t : Terms) (chain : List ℕ) (f : CheckFault) → IsFirstChainFault t chain f
    → IsAt (chain_rules t chain) chain_faults f
chain_at t chain Shape w = record { place = 0; broken = w; is = refl }
chain_at t chain NotForced w = record { place = 1; broken = (w.0, w.1); is = refl }
chain_at t chain NotAChain w = record { place = 2; broken = (w.0, (w.1, w.2)); is = refl }
chain_at t chain NotForbidden w = record { place = 3; broken = (w.0, (w.1, (w.2, w.3))); is = refl }
chain_at t chain _ w = absurd w

pub has_one_fault : (t : Terms) (a : Answer) → HasOneFault t a
has_one_fault t (answer.Plan plan) e f p q =
    once (plan_rules t plan) plan_faults e f (plan_at t plan e p) (plan_at t plan f q)
has_one_fault t (answer.Blocked chain) e f p q =
    once (chain_rules t chain) chain_faults e f (chain_at t chain e p) (chain_at t chain f q)

plan_kept : (t : Terms) (plan : Plan) → IsRightPlan t plan → AreKept (plan_rules t plan)
plan_kept t plan r =
    (r.shape, (r.closed, (is_number t plan r.priced, (r.priced, (r.within, (r.conserved, (r.valued, tt)))))))

chain_kept : (t : Terms) (chain : List ℕ) → IsRightChain t chain → AreKept (chain_rules t chain)
chain_kept t chain r = (r.steps, (r.forced, (r.linked, (r.forbidden, tt))))

pub has_no_fault : (t : Terms) (a : Answer) → HasNoFault t a
has_no_fault t (answer.Plan plan) right f p =
    let at : IsAt (plan_rules t plan) plan_faults f = plan_at t plan f p in
    none_broken (plan_rules t plan) at.place (plan_kept t plan right) at.broken
has_no_fault t (answer.Blocked chain) right f p =
    let at : IsAt (chain_rules t chain) chain_faults f = chain_at t chain f p in
    none_broken (chain_rules t chain) at.place (chain_kept t chain right) at.broken
