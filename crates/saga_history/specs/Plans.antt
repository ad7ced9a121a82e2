-- A compensation that fails permanently does not by itself make a saga stuck.
use Rattle.std.specs.Prelude.{◌≡◌, ◌≢◌, ℕ, Bool, true, false, not, ◌&&◌, List, [], ◌∷◌, Some, All}
use Rattle.saga_def.specs.declared.steps.Price.TheVariants.{Never}
use Rattle.saga_def.specs.declared.steps.Step.{Step}
use Rattle.saga_def.specs.Contents.{Contents}
use Rattle.saga_def.specs.Order.{Steps}
use Rattle.saga_case.specs.declared.answers.Answer.{Answer}
use Rattle.saga_case.specs.declared.answers.Answer.TheVariants as answer
use Rattle.saga_case.specs.Terms as case
use Rattle.saga_history.specs.declared.events.Event.{Event}
use Rattle.saga_history.specs.declared.transitions.Transition.TheVariants as transition
use Rattle.saga_history.specs.Changes.{Change, moves, starts_plan, adopts, aborts, changes}
use Rattle.saga_history.specs.States.{same_transition}
use Rattle.saga_history.specs.Turns.{present_case}
use Rattle.saga_history.specs.Rules.{SagaMay, definition}

abbrev pub is_plan : Answer → Bool
is_plan (answer.Plan plan) = true
is_plan (answer.Blocked chain) = false

-- the last adopted answer is a plan, and since then no step failed and the saga was not aborted
abbrev pub plan_in_force : List Change → Bool
plan_in_force [] = false
plan_in_force (moves s t ∷ l) = not (same_transition transition.Fail t) && plan_in_force l
plan_in_force (adopts a ∷ l) = is_plan a
plan_in_force (aborts ∷ l) = false
plan_in_force (_ ∷ l) = plan_in_force l

-- no step of the definition has the cost never for keep
abbrev pub NoKeepIsNever : Contents → Type 0
NoKeepIsNever d = All (λ (step : Step). step.keep ≢ Never) d.steps

-- some set is allowed in the present case
abbrev pub SomeSetIsAllowed : Contents → List Change → Type 0
SomeSetIsAllowed d l = (set : Steps) × case.IsAllowed (case.terms_of (present_case d l)) set

-- in each saga of such a definition: if a plan is in force and planning may start, some set is allowed
abbrev pub PlansLeaveAWay : List Contents → List Event → Type 0
PlansLeaveAWay shelf h =
    (i : ℕ) (d : Contents) → definition shelf (changes i h) ≡ Some d → NoKeepIsNever d
    → plan_in_force (changes i h) ≡ true → SagaMay d (changes i h) starts_plan → SomeSetIsAllowed d (changes i h)
