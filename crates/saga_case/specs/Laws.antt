-- Laws of faults of states, of first busy steps and of minimum-cost sets, for every case.
use Rattle.std.specs.Prelude.{◌≡◌, ℕ, List}
use Rattle.std.specs.declared.alloc.Global.{Global}
use Rattle.std.specs.declared.vec.Vec.{Vec}
use Rattle.saga_def.specs.Contents.{Contents}
use Rattle.saga_def.specs.Order.{Steps}
use Rattle.saga_case.specs.Faults.{IsFirstFault}
use Rattle.saga_case.specs.Situation.{AreDrained, HasStates, IsFirstBusy}
use Rattle.saga_case.specs.Terms.{Terms, cost_of, IsLeast, NoneIsAllowed}
use Rattle.saga_case.specs.declared.cases.CaseFault.{CaseFault}
use Rattle.saga_case.specs.declared.states.StepState.{StepState}

-- at most one fault is the first that applies, and there is none if the states form a case
abbrev pub HasOneFault : Contents → Vec StepState Global → Type 0
HasOneFault d states = (e f : CaseFault) → IsFirstFault d states e → IsFirstFault d states f → e ≡ f

abbrev pub HasNoFault : Contents → Vec StepState Global → Type 0
HasNoFault d states = HasStates d states.items → (f : CaseFault) → IsFirstFault d states f → ⊥

-- at most one busy step is the first, and there is none if no step is busy
abbrev pub HasOneFirstBusy : List StepState → Type 0
HasOneFirstBusy states = (i j : ℕ) → IsFirstBusy states i → IsFirstBusy states j → i ≡ j

abbrev pub HasNoBusy : List StepState → Type 0
HasNoBusy states = AreDrained states → (i : ℕ) → IsFirstBusy states i → ⊥

-- all minimum-cost sets have the same cost; if no set is allowed, there is no minimum-cost set
abbrev pub HasOneLeastCost : Terms → Type 0
HasOneLeastCost t = (set other : Steps) → IsLeast t set → IsLeast t other → cost_of t set ≡ cost_of t other

abbrev pub HasNoLeast : Terms → Type 0
HasNoLeast t = NoneIsAllowed t → (set : Steps) → IsLeast t set → ⊥
