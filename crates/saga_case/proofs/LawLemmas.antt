-- At most one first fault and one first busy step, and one least cost.
use Rattle.std.proofs.Common.{◌≡◌, ◌<◌, List, ap, arith, refl, sym, ◌∙◌}
use Rattle.std.specs.declared.alloc.Global.{Global}
use Rattle.std.specs.declared.vec.Vec.{Vec}
use Rattle.saga_def.specs.Contents.{Contents}
use Rattle.saga_def.specs.declared.steps.Price.{Price}
use Rattle.saga_def.specs.declared.steps.Price.TheVariants.{Of, Never}
use Rattle.saga_case.specs.Laws.{HasOneFault, HasNoFault, HasOneFirstBusy, HasNoBusy, HasOneLeastCost, HasNoLeast}
use Rattle.saga_case.specs.Terms.{Terms, cost_of, AtMost}
use Rattle.saga_case.specs.declared.cases.CaseFault.TheVariants.{WrongLength, Busy}
use Rattle.saga_case.specs.declared.states.StepState.{StepState}
use Rattle.saga_case.specs.declared.states.StepState.TheVariants.{Waiting}

pub has_one_first_busy : (states : List StepState) → HasOneFirstBusy states
has_one_first_busy states i j p q =
    let left : i < j → ⊥ = λ before. q.first i before p.busy in
    let right : j < i → ⊥ = λ before. p.first j before q.busy in
    omega (arith, left, right)

pub has_no_busy : (states : List StepState) → HasNoBusy states
has_no_busy states drained i p = drained i Waiting p.within p.busy

pub has_one_fault : (d : Contents) (states : Vec StepState Global) → HasOneFault d states
has_one_fault d states (WrongLength back) (WrongLength other) p q = ap (λ v. WrongLength v) (p.0 ∙ sym q.0)
has_one_fault d states (WrongLength back) (Busy step other) p q = absurd (p.1 q.1)
has_one_fault d states (Busy step back) (WrongLength other) p q = absurd (q.1 p.1)
has_one_fault d states (Busy step back) (Busy step' other) p q =
    let steps : step ≡ step' = has_one_first_busy states.items step step' p.2 q.2 in
    let backs : back ≡ other = p.0 ∙ sym q.0 in
    cc

pub has_no_fault : (d : Contents) (states : Vec StepState Global) → HasNoFault d states
has_no_fault d states has (WrongLength back) p = p.1 has.paired
has_no_fault d states has (Busy step back) p = has_no_busy states.items has.drained step p.2

-- two prices of which neither is above the other
same_price : (p q : Price) → AtMost p q → AtMost q p → p ≡ q
same_price (Of a) (Of b) l g = let e : a ≡ b = omega arith in ap (λ n. Of n) e
same_price (Of a) Never l g = absurd g
same_price Never (Of b) l g = absurd l
same_price Never Never l g = refl

pub has_one_least_cost : (t : Terms) → HasOneLeastCost t
has_one_least_cost t set other p q =
    same_price (cost_of t set) (cost_of t other) (p.least other q.allowed) (q.least set p.allowed)

pub has_no_least : (t : Terms) → HasNoLeast t
has_no_least t none set p = none.none set p.allowed
