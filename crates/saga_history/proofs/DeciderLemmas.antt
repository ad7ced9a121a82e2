-- The last change that decides.
use Rattle.std.proofs.Common.{◌≡◌, ◌≢◌, ℕ, false, List, [], ◌∷◌, ◌++◌, Bool, refl, sym, ap, ◌∙◌, append-nil}
use Rattle.std.specs.List.{list_any}
use Rattle.saga_case.specs.declared.answers.Answer.{Answer}
use Rattle.saga_case.specs.declared.answers.Answer.TheVariants as answer
use Rattle.saga_history.specs.declared.events.Event.{Event}
use Rattle.saga_history.specs.declared.events.Event.TheVariants as event
use Rattle.saga_history.specs.declared.transitions.Transition.{Transition}
use Rattle.saga_history.specs.declared.transitions.Transition.TheVariants as transition
use Rattle.saga_history.specs.declared.turns.Turn.{Turn}
use Rattle.saga_history.specs.declared.turns.Turn.TheVariants.{Draining, Planning}
use Rattle.saga_history.specs.Changes.{Change, opens, moves, starts_plan, drops_plan, adopts, aborts}
use Rattle.saga_history.specs.Counts.{is_final_failure}
use Rattle.saga_history.specs.Deciders.{decides_turn, decides_goal, LastDecidesTurn, LastDecidesGoal, LastOpens, OpensByOpenings}
use Rattle.saga_history.specs.Merges.{is_opening, opened_sagas}
use Rattle.saga_history.specs.Plans.{is_plan}
use Rattle.saga_history.specs.Turns.{turn_after_transition, turn_after_abort, turn, goal_of_answer, goal, opened_with}
use Rattle.saga_history.proofs.MergeLemmas.{or_parts}

quiet_transition : (t : Transition) (now : Turn) → is_final_failure t ≡ false → turn_after_transition t now ≡ now
quiet_transition transition.Fail now quiet = cc
quiet_transition transition.UndoFail now quiet = cc
quiet_transition _ now quiet = refl

-- changes that do not decide the turn leave it
turn_stays : (later l : List Change) → list_any decides_turn later ≡ false → turn (later ++ l) ≡ turn l
turn_stays [] l none = refl
turn_stays (opens k ∷ later) l none = turn_stays later l none
turn_stays (moves s t ∷ later) l none =
    let parts = or_parts (is_final_failure t) (list_any decides_turn later) none in
    quiet_transition t (turn (later ++ l)) parts.0 ∙ turn_stays later l parts.1
turn_stays (starts_plan ∷ later) l none = cc
turn_stays (_ ∷ later) l none = cc

abort_drains : (t : Turn) → t ≢ Planning → turn_after_abort t ≡ Draining
abort_drains Planning other = absurd (other refl)
abort_drains _ other = refl

pub last_decides_turn : LastDecidesTurn
last_decides_turn = λ later earlier none. record {
  undecided = ap turn (sym (append-nil later)) ∙ turn_stays later [] none;
  failed = λ s. turn_stays later (moves s transition.Fail ∷ earlier) none;
  undo_failed = λ s. turn_stays later (moves s transition.UndoFail ∷ earlier) none;
  begun = turn_stays later (starts_plan ∷ earlier) none;
  dropped = turn_stays later (drops_plan ∷ earlier) none;
  planned = λ plan. turn_stays later (adopts (answer.Plan plan) ∷ earlier) none;
  blocked = λ chain. turn_stays later (adopts (answer.Blocked chain) ∷ earlier) none;
  aborted = λ other. turn_stays later (aborts ∷ earlier) none ∙ abort_drains (turn earlier) other;
  aborted_in_planning = λ is. turn_stays later (aborts ∷ earlier) none ∙ ap turn_after_abort is;
}

quiet_answer : (a : Answer) (now : ℕ → Bool) (s : ℕ) → is_plan a ≡ false → goal_of_answer a now s ≡ now s
quiet_answer (answer.Plan plan) now s quiet = cc
quiet_answer (answer.Blocked chain) now s quiet = refl

goal_stays : (later l : List Change) (s : ℕ) → list_any decides_goal later ≡ false → goal (later ++ l) s ≡ goal l s
goal_stays [] l s none = refl
goal_stays (opens k ∷ later) l s none = goal_stays later l s none
goal_stays (moves r t ∷ later) l s none = goal_stays later l s none
goal_stays (starts_plan ∷ later) l s none = goal_stays later l s none
goal_stays (drops_plan ∷ later) l s none = goal_stays later l s none
goal_stays (adopts a ∷ later) l s none =
    let parts = or_parts (is_plan a) (list_any decides_goal later) none in
    quiet_answer a (goal (later ++ l)) s parts.0 ∙ goal_stays later l s parts.1
goal_stays (aborts ∷ later) l s none = goal_stays later l s none

pub last_decides_goal : LastDecidesGoal
last_decides_goal = λ later earlier none. record {
  undecided = λ s. ap (λ (l : List Change). goal l s) (sym (append-nil later)) ∙ goal_stays later [] s none;
  planned = λ plan s. goal_stays later (adopts (answer.Plan plan) ∷ earlier) s none;
}

opening_stays : (later l : List Change) → list_any is_opening later ≡ false → opened_with (later ++ l) ≡ opened_with l
opening_stays [] l none = refl
opening_stays (opens k ∷ later) l none = cc
opening_stays (_ ∷ later) l none = opening_stays later l none

pub last_opens : LastOpens
last_opens = λ later earlier none. record {
  unopened = ap opened_with (sym (append-nil later)) ∙ opening_stays later [] none;
  opened = λ k. opening_stays later (opens k ∷ earlier) none;
}

opened_append : (g h : List Event) → opened_sagas (g ++ h) ≡ opened_sagas g ++ opened_sagas h
opened_append [] h = refl
opened_append (event.Open i k ∷ g) h = ap (λ (l : List ℕ). i ∷ l) (opened_append g h)
opened_append (_ ∷ g) h = opened_append g h

opens_none : (e : Event) → ((i k : ℕ) → e ≢ event.Open i k) → opened_sagas (e ∷ []) ≡ []
opens_none (event.Open i k) other = absurd (other i k refl)
opens_none _ other = refl

pub opens_by_openings : (events : List Event) → OpensByOpenings events
opens_by_openings events = record {
  none = refl;
  one = λ i k. opened_append events (event.Open i k ∷ []);
  others = λ e other. opened_append events (e ∷ []) ∙ ap (λ (l : List ℕ). opened_sagas events ++ l) (opens_none e other) ∙ append-nil (opened_sagas events);
}
