-- Laws of the faults of answers, for every case and answer.
use Rattle.std.specs.Prelude.{◌≡◌}
use Rattle.saga_case.specs.declared.answers.Answer.{Answer}
use Rattle.saga_case.specs.Right.{IsRight}
use Rattle.saga_case.specs.Terms.{Terms}
use Rattle.saga_check.specs.Faults.{IsFirstFault}
use Rattle.saga_check.specs.declared.faults.CheckFault.{CheckFault}

-- at most one fault is the first that applies, and a right answer has none
abbrev pub HasOneFault : Terms → Answer → Type 0
HasOneFault t answer = (e f : CheckFault) → IsFirstFault t answer e → IsFirstFault t answer f → e ≡ f

abbrev pub HasNoFault : Terms → Answer → Type 0
HasNoFault t answer = IsRight t answer → (f : CheckFault) → IsFirstFault t answer f → ⊥
