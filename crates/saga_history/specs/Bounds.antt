-- The bounds on the events of a saga are reached: in an example, one more event would exceed a bound.
use Rattle.std.specs.Prelude.{ℕ, Bool, true, false, List, [], ◌∷◌, ◌++◌}
use Rattle.saga_def.specs.declared.steps.Step.{Step}
use Rattle.saga_def.specs.declared.steps.Price.TheVariants.{Of}
use Rattle.saga_def.specs.Contents.{Contents}
use Rattle.saga_def.specs.Sound.{IsSound}
use Rattle.saga_case.specs.declared.answers.Answer.{Answer}
use Rattle.saga_case.specs.declared.answers.Answer.TheVariants as answer
use Rattle.saga_history.specs.declared.events.Event.{Event}
use Rattle.saga_history.specs.declared.events.Event.TheVariants as event
use Rattle.saga_history.specs.declared.transitions.Transition.{Transition}
use Rattle.saga_history.specs.Changes.{opens, moves, adopts, past, changes}
use Rattle.saga_history.specs.Counts.{HasFewEvents}
use Rattle.saga_history.specs.Rules.{IsLegal}

-- a step with this name and these numbers of tries, all of whose costs are 0
abbrev pub free_step : ℕ → ℕ → ℕ → Step
free_step letter tries undo_tries =
    record { name = letter ∷ []; run = Of 0; undo = Of 0; skip = Of 0; keep = Of 0; tries = tries; undo_tries = undo_tries }

-- a definition of two such steps: a with 2 tries and 1 of its compensation, b with 1 and 3; neither needs the other
abbrev pub pair : Contents
pair = record { name = 97 ∷ []; steps = free_step 97 2 1 ∷ free_step 98 1 3 ∷ []; needs = [] }

-- a plan of cost 0 that keeps some of these steps
abbrev pub keeping : Bool → Bool → Answer
keeping first second =
    answer.Plan (record { kept = first ∷ second ∷ []; cost = 0; leave = 0 ∷ 0 ∷ []; stand = 0 ∷ 0 ∷ []; links = [] })

-- a saga with this definition: a is missed once, the saga is aborted while b runs, a plan is dropped, and the next plan
-- keeps neither step
abbrev pub planned_once : List Event
planned_once =
    event.Open 0 0 ∷ event.StartRun 0 0 ∷ event.Missed 0 0 ∷ event.StartRun 0 0 ∷ event.Commit 0 0 ∷ event.StartRun 0 1
    ∷ event.Abort 0 ∷ event.Commit 0 1 ∷ event.StartPlan 0 ∷ event.DropPlan 0 ∷ event.StartPlan 0
    ∷ event.Adopt 0 (keeping false false) ∷ []

-- the compensation of a fails permanently
abbrev pub one_fixed : List Event
one_fixed = planned_once ++ event.StartUndo 0 0 ∷ event.UndoFail 0 0 ∷ []

-- the next plan keeps a, and the compensation of b fails permanently at its third try
abbrev pub both_fixed : List Event
both_fixed =
    one_fixed ++ event.StartPlan 0 ∷ event.Adopt 0 (keeping true false) ∷ event.StartUndo 0 1 ∷ event.UndoMissed 0 1
    ∷ event.StartUndo 0 1 ∷ event.UndoMissed 0 1 ∷ event.StartUndo 0 1 ∷ event.UndoFail 0 1 ∷ []

-- the last plan keeps both steps
abbrev pub longest : List Event
longest = both_fixed ++ event.StartPlan 0 ∷ event.Adopt 0 (keeping true true) ∷ []

-- all these histories are legal, and each of these additions would exceed a bound: one more adoption after the first,
-- one more transition of a step that used all its tries, or any one event at the end
pub record BoundsAreReached : Type 0 where
  pub sound : IsSound pair
  pub legal : IsLegal (pair ∷ []) (past longest)
  pub adoptions : (a : Answer) → ¬ HasFewEvents pair (adopts a ∷ changes 0 (past planned_once))
  pub step_a : (t : Transition) → ¬ HasFewEvents pair (moves 0 t ∷ changes 0 (past one_fixed))
  pub step_b : (t : Transition) → ¬ HasFewEvents pair (moves 1 t ∷ changes 0 (past both_fixed))
  pub in_all : (k : ℕ) → ¬ HasFewEvents pair (opens k ∷ changes 0 (past longest))
