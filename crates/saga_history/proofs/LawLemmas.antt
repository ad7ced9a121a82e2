-- A saga stands in one phase, and the headline has its parts.
use Rattle.std.proofs.Common.{◌≡◌, ℕ, ◌+◌, ◌∷◌, ◌++◌, List, Some, take, drop, refl, sym, ap, ◌∙◌, subst}
use Rattle.std.specs.Prelude.{slice_get}
use Rattle.std.proofs.lemmas.List.{take-append-drop}
use Rattle.saga_def.specs.Contents.{Contents}
use Rattle.saga_history.specs.declared.events.Event.{Event}
use Rattle.saga_history.specs.declared.events.Event.TheVariants as event
use Rattle.saga_history.specs.declared.tasks.Phase.TheVariants as phase
use Rattle.saga_history.specs.Changes.{Change, past}
use Rattle.saga_history.specs.Headline.{Headline, AdoptionSettles}
use Rattle.saga_history.specs.Laws.{HasOnePhase, GoalIsClosed, GoalIsKept, OthersAreUndone, UndoneInOrder, AdoptionsSettle}
use Rattle.saga_history.specs.Rules.{EachEvent}
use Rattle.saga_history.proofs.MergeLemmas.{past_append, each_below}
use Rattle.saga_history.proofs.PartLemmas.{past_more}

pub has_one_phase : (d : Contents) (l : List Change) → HasOnePhase d l
has_one_phase d l phase.Going phase.Going a b = refl
has_one_phase d l phase.Going phase.Draining a b = absurd (cc (a.0, b))
has_one_phase d l phase.Going phase.Planning a b = absurd (cc (a.0, b))
has_one_phase d l phase.Going phase.Ended a b = absurd (a.1 b)
has_one_phase d l phase.Going phase.Stuck a b = absurd (cc (a.0, b))
has_one_phase d l phase.Draining phase.Going a b = absurd (cc (a, b.0))
has_one_phase d l phase.Draining phase.Draining a b = refl
has_one_phase d l phase.Draining phase.Ended a b = absurd (cc (a, b.going))
has_one_phase d l phase.Planning phase.Going a b = absurd (cc (a, b.0))
has_one_phase d l phase.Planning phase.Planning a b = refl
has_one_phase d l phase.Planning phase.Ended a b = absurd (cc (a, b.going))
has_one_phase d l phase.Ended phase.Going a b = absurd (b.1 a)
has_one_phase d l phase.Ended phase.Draining a b = absurd (cc (a.going, b))
has_one_phase d l phase.Ended phase.Planning a b = absurd (cc (a.going, b))
has_one_phase d l phase.Ended phase.Ended a b = refl
has_one_phase d l phase.Ended phase.Stuck a b = absurd (cc (a.going, b))
has_one_phase d l phase.Stuck phase.Going a b = absurd (cc (a, b.0))
has_one_phase d l phase.Stuck phase.Ended a b = absurd (cc (a, b.going))
has_one_phase d l phase.Stuck phase.Stuck a b = refl
has_one_phase d l _ _ a b = absurd (cc (a, b))

pub goal_is_closed : (shelf : List Contents) (h : List Event) → Headline shelf h → GoalIsClosed shelf h
goal_is_closed shelf h head i d runs ended = (head.ended i d runs ended).closed

pub goal_is_kept : (shelf : List Contents) (h : List Event) → Headline shelf h → GoalIsKept shelf h
goal_is_kept shelf h head i d runs ended s within is = (head.ended i d runs ended).kept s within is

pub others_are_undone : (shelf : List Contents) (h : List Event) → Headline shelf h → OthersAreUndone shelf h
others_are_undone shelf h head i d runs ended s within is some = (head.ended i d runs ended).compensated s within is some

pub undone_in_order : (shelf : List Contents) (h : List Event) → Headline shelf h → UndoneInOrder shelf h
undone_in_order shelf h head i d runs p q precedes undone done = (head.in_order i d runs).order p q precedes undone done

-- what holds of each event with those before it, of the one at a place
each_at : (P : List Event → Event → Type 0) (events : List Event) (place : ℕ) (e : Event) → EachEvent P (past events)
    → slice_get events place ≡ Some e → P (past (take place events)) e
each_at P events place e each here =
    let split : past events ≡ past (drop (place + 1) events) ++ past (take (place + 1) events) =
    ap past (sym (take-append-drop (place + 1) events))
    ∙ past_append (take (place + 1) events) (drop (place + 1) events) in
    let below : EachEvent P (past (take (place + 1) events)) =
    each_below P (past (drop (place + 1) events)) (past (take (place + 1) events)) (subst (EachEvent P) split each) in
    let both : EachEvent P (e ∷ past (take place events)) = subst (EachEvent P) (past_more events place e here) below in
    both.0

pub adoptions_settle : (shelf : List Contents) (events : List Event) → Headline shelf (past events) → AdoptionsSettle shelf events
adoptions_settle shelf events head place i a d here runs =
    each_at (AdoptionSettles shelf) events place (event.Adopt i a) head.settled here d runs
