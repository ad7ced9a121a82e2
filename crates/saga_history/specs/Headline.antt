-- The main theorem, for each legal history.
use Rattle.std.specs.Prelude.{◌≡◌, ◌≢◌, ℕ, ◌<◌, Bool, true, false, List, [], ◌∷◌, Some, length, if◌then◌else◌, ◌==◌}
use Rattle.saga_def.specs.Contents.{Contents}
use Rattle.saga_def.specs.Order.{Precedes, IsClosed, Steps}
use Rattle.saga_case.specs.declared.states.StepState.TheVariants.{Failed, Undone}
use Rattle.saga_case.specs.Terms.{terms_of, IsAllowed}
use Rattle.saga_case.specs.Right.{IsRight, Settles}
use Rattle.saga_history.specs.declared.events.Event.{Event}
use Rattle.saga_history.specs.declared.transitions.Transition.TheVariants as transition
use Rattle.saga_history.specs.Changes.{Change, opens, moves, starts_plan, drops_plan, adopts, aborts, saga_of, change_of, changes}
use Rattle.saga_history.specs.States.{state, same_transition, times, times_committed}
use Rattle.saga_history.specs.Turns.{goal, present_case}
use Rattle.saga_history.specs.Rules.{IsEnded, definition, EachEvent}

-- an ended saga has exactly its goal, a dependency-closed set: each step in it committed once and was not compensated,
-- and each other step that committed was compensated once. A step that ended without an effect counts as committed.
pub record HasExactlyItsGoal (d : Contents) (l : List Change) : Type 0 where
  pub closed : IsClosed d.needs (goal l)
  pub kept : (s : ℕ) → s < length d.steps → goal l s ≡ true
      → (times_committed l s ≡ 1) × (times transition.Undone l s ≡ 0)
  pub compensated : (s : ℕ) → s < length d.steps → goal l s ≡ false → 0 < times_committed l s
      → (times_committed l s ≡ 1) × (times transition.Undone l s ≡ 1)

-- whether a compensation of this step starts
abbrev pub starts_undo_of : ℕ → Change → Bool
starts_undo_of s (moves r t) = if s == r then same_transition transition.StartUndo t else false
starts_undo_of s _ = false

-- the changes before the last change that passes the test
abbrev pub before_last : (Change → Bool) → List Change → List Change
before_last p [] = []
before_last p (c ∷ l) = if p c then l else before_last p l

-- each step that p precedes and that committed was compensated before the last start of the compensation of p
pub record CompensatesInOrder (d : Contents) (l : List Change) : Type 0 where
  pub order : (p q : ℕ) → Precedes d.needs p q → 0 < times transition.Undone l p → 0 < times_committed l q
      → 0 < times transition.Undone (before_last (starts_undo_of p) l) q

-- no allowed set of the present case has a failed or an undone step
abbrev pub AllowedSetsHoldNoneLost : Contents → List Change → Type 0
AllowedSetsHoldNoneLost d l =
    (set : Steps) (s : ℕ) → IsAllowed (terms_of (present_case d l)) set → s < length d.steps → set s ≡ true
    → (state l s ≢ Failed) × (state l s ≢ Undone)

-- an adopted answer is right for the present case before the adoption: its kept set is a minimum-cost set, or no set is
-- allowed
abbrev pub SettlesPresentCase : Contents → List Change → Change → Type 0
SettlesPresentCase d l (opens k) = Unit {0}
SettlesPresentCase d l (moves s t) = Unit {0}
SettlesPresentCase d l starts_plan = Unit {0}
SettlesPresentCase d l drops_plan = Unit {0}
SettlesPresentCase d l (adopts a) =
    IsRight (terms_of (present_case d l)) a × Settles (terms_of (present_case d l)) a × AllowedSetsHoldNoneLost d l
SettlesPresentCase d l aborts = Unit {0}

abbrev pub AdoptionSettles : List Contents → List Event → Event → Type 0
AdoptionSettles shelf h e =
    (d : Contents) → definition shelf (changes (saga_of e) h) ≡ Some d
    → SettlesPresentCase d (changes (saga_of e) h) (change_of e)

-- The main theorem, for all sagas of a history: an ended saga has exactly its goal; in each saga, ended or not,
-- compensations run in order; and each adopted answer is right for its case.
pub record Headline (shelf : List Contents) (h : List Event) : Type 0 where
  pub ended : (i : ℕ) (d : Contents) → definition shelf (changes i h) ≡ Some d → IsEnded d (changes i h)
      → HasExactlyItsGoal d (changes i h)
  pub in_order : (i : ℕ) (d : Contents) → definition shelf (changes i h) ≡ Some d → CompensatesInOrder d (changes i h)
  pub settled : EachEvent (AdoptionSettles shelf) h
