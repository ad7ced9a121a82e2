-- The costs to keep and to drop a step.
use Rattle.std.specs.Prelude.{Bool, true, false, ◌+◌, ◌≤◌}
use Rattle.saga_def.specs.declared.steps.Price.{Price}
use Rattle.saga_def.specs.declared.steps.Price.TheVariants.{Of, Never}
use Rattle.saga_def.specs.declared.steps.Step.{Step}
use Rattle.saga_case.specs.declared.states.StepState.{StepState}
use Rattle.saga_case.specs.declared.states.StepState.TheVariants.{Waiting, Running, Committed, Void, Failed, Undoing, Undone, Fixed}
use Rattle.saga_case.specs.Limits.{max_step_price}

-- the sum of two costs; it is never if one of them is
abbrev pub plus : Price → Price → Price
plus (Of a) (Of b) = Of (a + b)
plus (Of a) Never = Never
plus Never q = Never

-- the cost to drop a step that has no effect: 0, unless the step must not be skipped
abbrev pub free_skip : Price → Price
free_skip (Of a) = Of 0
free_skip Never = Never

-- the cost to keep a step, by whether the saga was aborted and the step's state; never for a busy step
abbrev pub stand_of : Bool → StepState → Step → Price
stand_of false Waiting step = plus step.run step.keep
stand_of true Waiting step = Never
stand_of aborted Running step = Never
stand_of aborted Committed step = step.keep
stand_of aborted Void step = Of 0
stand_of aborted Failed step = Never
stand_of aborted Undoing step = Never
stand_of aborted Undone step = Never
stand_of aborted Fixed step = step.keep

-- the cost to drop a step, by its state; never for a busy step
abbrev pub leave_of : StepState → Step → Price
leave_of Waiting step = step.skip
leave_of Running step = Never
leave_of Committed step = plus step.undo step.skip
leave_of Void step = free_skip step.skip
leave_of Failed step = step.skip
leave_of Undoing step = Never
leave_of Undone step = step.skip
leave_of Fixed step = Never

-- a cost that is a number is at most max_step_price
abbrev pub IsBounded : Price → Type 0
IsBounded (Of amount) = amount ≤ max_step_price
IsBounded Never = Unit {0}
