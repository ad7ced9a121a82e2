-- The states of a step.
use Rattle.std.specs.Prelude.{ℕ, List, Bool, true, false, codes}
use Rattle.saga_case.specs.declared.states.StepState.{StepState}
use Rattle.saga_case.specs.declared.states.StepState.TheVariants.{Waiting, Running, Committed, Void, Failed, Undoing, Undone, Fixed}

-- the action or the compensation is in progress
abbrev pub IsBusy : StepState → Type 0
IsBusy Running = Unit {0}
IsBusy Undoing = Unit {0}
IsBusy _ = ⊥

-- for the steps that need it, the step is committed: its action succeeded, or it ended without an effect
abbrev pub commits : StepState → Bool
commits Committed = true
commits Void = true
commits _ = false

-- the state in one word
abbrev pub word_of : StepState → List ℕ
word_of Waiting = codes "waiting"
word_of Running = codes "running"
word_of Committed = codes "committed"
word_of Void = codes "void"
word_of Failed = codes "failed"
word_of Undoing = codes "undoing"
word_of Undone = codes "undone"
word_of Fixed = codes "fixed"
