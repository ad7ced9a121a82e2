-- Which fault of states is the first that applies.
use Rattle.std.specs.Prelude.{length, ◌≡◌, ◌≢◌}
use Rattle.std.specs.declared.alloc.Global.{Global}
use Rattle.std.specs.declared.vec.Vec.{Vec}
use Rattle.saga_def.specs.Contents.{Contents}
use Rattle.saga_case.specs.Situation.{IsFirstBusy}
use Rattle.saga_case.specs.declared.states.StepState.{StepState}
use Rattle.saga_case.specs.declared.cases.CaseFault.{CaseFault}
use Rattle.saga_case.specs.declared.cases.CaseFault.TheVariants.{WrongLength, Busy}

-- the same states are returned; a wrong length comes before a busy step
abbrev pub IsFirstFault : Contents → Vec StepState Global → CaseFault → Type 0
IsFirstFault definition states (WrongLength back) = (back ≡ states) × (length states.items ≢ length definition.steps)
IsFirstFault definition states (Busy step back) =
    (back ≡ states) × (length states.items ≡ length definition.steps) × IsFirstBusy states.items step
