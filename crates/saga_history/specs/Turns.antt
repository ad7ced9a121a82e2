-- The turn and the goal of a saga, by its changes, last first.
use Rattle.std.specs.Prelude.{ℕ, Bool, true, false, ◌||◌, ◌&&◌, List, [], ◌∷◌, Option, Some, None}
use Rattle.saga_def.specs.Contents.{Contents}
use Rattle.saga_def.specs.Order.{Steps, member}
use Rattle.saga_case.specs.declared.answers.Answer.{Answer}
use Rattle.saga_case.specs.declared.answers.Answer.TheVariants as answer
use Rattle.saga_case.specs.Situation.{Situation, situation}
use Rattle.saga_history.specs.declared.transitions.Transition.{Transition}
use Rattle.saga_history.specs.declared.transitions.Transition.TheVariants as transition
use Rattle.saga_history.specs.declared.turns.Turn.{Turn}
use Rattle.saga_history.specs.declared.turns.Turn.TheVariants.{Going, Draining, Planning, Stuck}
use Rattle.saga_history.specs.Changes.{Change, opens, moves, starts_plan, drops_plan, adopts, aborts}
use Rattle.saga_history.specs.States.{states}

-- after a failure that is not retried, the saga drains
abbrev pub turn_after_transition : Transition → Turn → Turn
turn_after_transition transition.Fail turn = Draining
turn_after_transition transition.UndoFail turn = Draining
turn_after_transition _ turn = turn

-- after a plan it continues, after a chain it is stuck
abbrev pub turn_of_answer : Answer → Turn
turn_of_answer (answer.Plan plan) = Going
turn_of_answer (answer.Blocked chain) = Stuck

-- after an abort it drains, unless a plan is in progress
abbrev pub turn_after_abort : Turn → Turn
turn_after_abort Planning = Planning
turn_after_abort _ = Draining

-- the turn after a change
abbrev pub turn_after : Change → Turn → Turn
turn_after (opens k) turn = turn
turn_after (moves s t) turn = turn_after_transition t turn
turn_after starts_plan turn = Planning
turn_after drops_plan turn = Draining
turn_after (adopts a) turn = turn_of_answer a
turn_after aborts turn = turn_after_abort turn

-- the turn of a saga; at its start a saga is going
abbrev pub turn : List Change → Turn
turn [] = Going
turn (c ∷ l) = turn_after c (turn l)

abbrev pub is_going : Turn → Bool
is_going Going = true
is_going _ = false

-- the goal after a change: an adopted plan sets it to the steps that it keeps
abbrev pub goal_of_answer : Answer → Steps → Steps
goal_of_answer (answer.Plan plan) goal = member plan.kept
goal_of_answer (answer.Blocked chain) goal = goal

abbrev pub goal_after : Change → Steps → Steps
goal_after (adopts a) goal = goal_of_answer a goal
goal_after _ goal = goal

-- the goal: all steps until a plan is adopted, and then the set that the last plan keeps
abbrev pub goal : List Change → Steps
goal [] = λ s. true
goal (c ∷ l) = goal_after c (goal l)

-- a step is in the goal of a saga that is going
abbrev pub in_goal : List Change → Steps
in_goal l s = is_going (turn l) && goal l s

-- the saga was aborted
abbrev pub is_abort : Change → Bool
is_abort aborts = true
is_abort _ = false

abbrev pub aborted : List Change → Bool
aborted [] = false
aborted (c ∷ l) = is_abort c || aborted l

-- the index on the shelf of the definition with which the saga was opened
abbrev pub opened_with : List Change → Option ℕ
opened_with [] = None
opened_with (opens k ∷ l) = Some k
opened_with (_ ∷ l) = opened_with l

-- the present case: the input of a plan that is made now
abbrev pub present_case : Contents → List Change → Situation
present_case d l = situation d (states d l) (aborted l)
