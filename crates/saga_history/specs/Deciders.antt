-- Which change decided the turn, the goal and the definition of a saga: the last one of those that decide it.
use Rattle.std.specs.Prelude.{◌≡◌, ◌≢◌, ℕ, Bool, true, false, List, [], ◌∷◌, ◌++◌, None, Some}
use Rattle.std.specs.List.{list_any}
use Rattle.saga_def.specs.Order.{member}
use Rattle.saga_case.specs.declared.answers.Plan.{Plan}
use Rattle.saga_case.specs.declared.answers.Answer.TheVariants as answer
use Rattle.saga_history.specs.declared.events.Event.{Event}
use Rattle.saga_history.specs.declared.events.Event.TheVariants as event
use Rattle.saga_history.specs.declared.transitions.Transition.TheVariants as transition
use Rattle.saga_history.specs.declared.turns.Turn.TheVariants.{Going, Draining, Planning, Stuck}
use Rattle.saga_history.specs.Changes.{Change, opens, moves, starts_plan, drops_plan, adopts, aborts}
use Rattle.saga_history.specs.Counts.{is_final_failure}
use Rattle.saga_history.specs.Merges.{is_opening, opened_sagas}
use Rattle.saga_history.specs.Plans.{is_plan}
use Rattle.saga_history.specs.Turns.{turn, goal, opened_with}

-- a failure that is not retried decides the turn, and so does each change of plans and an abort
abbrev pub decides_turn : Change → Bool
decides_turn (opens k) = false
decides_turn (moves s t) = is_final_failure t
decides_turn _ = true

-- an adopted plan decides the goal
abbrev pub decides_goal : Change → Bool
decides_goal (adopts a) = is_plan a
decides_goal _ = false

-- the turn by the last change that decides it; without one the saga is going, and an abort during planning leaves it in
-- planning
pub record HasTurnDecided (later earlier : List Change) : Type 0 where
  pub undecided : turn later ≡ Going
  pub failed : (s : ℕ) → turn (later ++ moves s transition.Fail ∷ earlier) ≡ Draining
  pub undo_failed : (s : ℕ) → turn (later ++ moves s transition.UndoFail ∷ earlier) ≡ Draining
  pub begun : turn (later ++ starts_plan ∷ earlier) ≡ Planning
  pub dropped : turn (later ++ drops_plan ∷ earlier) ≡ Draining
  pub planned : (plan : Plan) → turn (later ++ adopts (answer.Plan plan) ∷ earlier) ≡ Going
  pub blocked : (chain : List ℕ) → turn (later ++ adopts (answer.Blocked chain) ∷ earlier) ≡ Stuck
  pub aborted : turn earlier ≢ Planning → turn (later ++ aborts ∷ earlier) ≡ Draining
  pub aborted_in_planning : turn earlier ≡ Planning → turn (later ++ aborts ∷ earlier) ≡ Planning

-- later changes that do not decide the turn leave it unchanged
abbrev pub LastDecidesTurn : Type 0
LastDecidesTurn = (later earlier : List Change) → list_any decides_turn later ≡ false → HasTurnDecided later earlier

-- the goal by the last adopted plan: without one it is all steps, and otherwise the steps that the plan keeps
pub record HasGoalDecided (later earlier : List Change) : Type 0 where
  pub undecided : (s : ℕ) → goal later s ≡ true
  pub planned : (plan : Plan) (s : ℕ) → goal (later ++ adopts (answer.Plan plan) ∷ earlier) s ≡ member plan.kept s

abbrev pub LastDecidesGoal : Type 0
LastDecidesGoal = (later earlier : List Change) → list_any decides_goal later ≡ false → HasGoalDecided later earlier

-- the definition of a saga, by its last opening
pub record HasOpening (later earlier : List Change) : Type 0 where
  pub unopened : opened_with later ≡ None
  pub opened : (k : ℕ) → opened_with (later ++ opens k ∷ earlier) ≡ Some k

abbrev pub LastOpens : Type 0
LastOpens = (later earlier : List Change) → list_any is_opening later ≡ false → HasOpening later earlier

-- the sagas that a history opens are those of its openings: an opening at its end adds its saga, and no other event
-- adds one
pub record OpensByOpenings (events : List Event) : Type 0 where
  pub none : opened_sagas [] ≡ []
  pub one : (i k : ℕ) → opened_sagas (events ++ event.Open i k ∷ []) ≡ opened_sagas events ++ i ∷ []
  pub others : (e : Event) → ((i k : ℕ) → e ≢ event.Open i k) → opened_sagas (events ++ e ∷ []) ≡ opened_sagas events
