-- The lines of a report.
use Rattle.std.specs.Prelude.{ℕ, List, [], ◌∷◌, ◌++◌, Bool, true, false, length, nat_lt, Option, Some, None, unwrap_or, option_and_then, slice_get, decimal, codes, flat_map, if◌then◌else◌}
use Rattle.std.specs.List.{concat, list_all, range_with_len}
use Rattle.saga_def.specs.Contents.{Contents}
use Rattle.saga_def.specs.declared.steps.Step.{Step}
use Rattle.saga_case.specs.declared.states.StepState.{StepState}
use Rattle.saga_case.specs.declared.states.StepState.TheVariants as state
use Rattle.saga_history.specs.Changes.{Change}
use Rattle.saga_history.specs.States.{state as state_of, is_standing, is_off}
use Rattle.saga_history.specs.Tasks.{phase_word}
use Rattle.saga_history.specs.Turns.{turn, goal, aborted, opened_with}
use Rattle.saga_history.specs.declared.tasks.Phase.{Phase}
use Rattle.saga_history.specs.declared.tasks.Phase.TheVariants as phase
use Rattle.saga_history.specs.declared.turns.Turn.{Turn}
use Rattle.saga_history.specs.declared.turns.Turn.TheVariants as turns
use Rattle.saga_report.specs.declared.sagas.Cost.{Cost}
use Rattle.saga_report.specs.declared.sagas.Cost.TheVariants as cost
use Rattle.saga_report.specs.Sagas.{cost_of, plans_of}

-- the data of a saga in a report
pub record Story : Type 0 where
  pub opened : Option ℕ
  pub turn : Turn
  pub aborted : Bool
  pub goal : ℕ → Bool
  pub state : ℕ → StepState
  pub plans : ℕ
  pub cost : Cost

-- the data of a saga by its changes, last first
abbrev pub story_of : List Change → Story
story_of l = record {
  opened = opened_with l;
  turn = turn l;
  aborted = aborted l;
  goal = goal l;
  state = state_of l;
  plans = plans_of l;
  cost = cost_of l;
}

-- a definition without name and steps, for a saga that was opened with none on the shelf, which is impossible in a
-- legal history
abbrev pub no_contents : Contents
no_contents = record { name = []; steps = []; needs = [] }

abbrev pub contents_of : List Contents → Story → Contents
contents_of shelf story = unwrap_or (option_and_then (slice_get shelf) story.opened) no_contents

-- a step of the goal is in effect, or another one is waiting, failed or undone
abbrev pub is_done : Bool → StepState → Bool
is_done true state = is_standing state
is_done false state = is_off state

abbrev pub are_done : Contents → Story → Bool
are_done d story = list_all (λ s. is_done (story.goal s) (story.state s)) (range_with_len 0 (length d.steps))

abbrev pub phase_by : Turn → Bool → Phase
phase_by turns.Going true = phase.Ended
phase_by turns.Going false = phase.Going
phase_by turns.Draining done = phase.Draining
phase_by turns.Planning done = phase.Planning
phase_by turns.Stuck done = phase.Stuck

-- the phase of the saga
abbrev pub phase_of : Contents → Story → Phase
phase_of d story = phase_by story.turn (are_done d story)

-- the state's word, padded to 9 columns
abbrev pub padded_word : StepState → List ℕ
padded_word state.Waiting = codes "waiting  "
padded_word state.Running = codes "running  "
padded_word state.Committed = codes "committed"
padded_word state.Void = codes "void     "
padded_word state.Failed = codes "failed   "
padded_word state.Undoing = codes "undoing  "
padded_word state.Undone = codes "undone   "
padded_word state.Fixed = codes "fixed    "

-- the padding of a number to 4 columns
abbrev pub pad_of : ℕ → List ℕ
pad_of n =
    if nat_lt n 10 then codes "   "
    else (if nat_lt n 100 then codes "  " else (if nat_lt n 1000 then codes " " else []))

abbrev pub aborted_word : Bool → List ℕ
aborted_word true = codes " aborted"
aborted_word false = []

abbrev pub cost_text : Cost → List ℕ
cost_text cost.None = codes "none"
cost_text (cost.Of amount) = decimal amount
cost_text cost.Blocked = codes "blocked"

abbrev pub head_line : ℕ → List ℕ → Phase → Bool → List ℕ
head_line number name phase aborted =
    concat (codes "saga " ∷ decimal number ∷ codes " " ∷ name ∷ codes " " ∷ phase_word phase ∷ aborted_word aborted ∷ codes "\n" ∷ [])

abbrev pub step_line : ℕ → StepState → List ℕ → List ℕ
step_line number state name =
    concat (pad_of number ∷ decimal number ∷ codes " " ∷ padded_word state ∷ codes " " ∷ name ∷ codes "\n" ∷ [])

abbrev pub name_of : Option Step → List ℕ
name_of None = []
name_of (Some step) = step.name

abbrev pub step_lines : Contents → Story → List ℕ
step_lines d story =
    flat_map (λ s. step_line s (story.state s) (name_of (slice_get d.steps s))) (range_with_len 0 (length d.steps))

abbrev pub plans_line : ℕ → Cost → List ℕ
plans_line plans cost = concat (codes "plans " ∷ decimal plans ∷ codes " cost " ∷ cost_text cost ∷ codes "\n" ∷ [])

-- the lines of a saga
abbrev pub saga_text : Contents → ℕ → Story → List ℕ
saga_text d number story =
    head_line number d.name (phase_of d story) story.aborted ++ (step_lines d story ++ plans_line story.plans story.cost)

-- the last line
abbrev pub total_line : ℕ → ℕ → ℕ → ℕ → List ℕ
total_line sagas ended stuck events =
    concat (codes "sagas " ∷ decimal sagas ∷ codes " ended " ∷ decimal ended ∷ codes " stuck " ∷ decimal stuck
    ∷ codes " events " ∷ decimal events ∷ codes "\n" ∷ [])
