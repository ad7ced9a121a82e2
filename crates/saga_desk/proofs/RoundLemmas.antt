-- How a shard was found, and what is shown of it.
use Rattle.std.proofs.Common.{◌≡◌, ◌∙◌, ◌⊎◌, ◌++◌, ◌∷◌, [], ℕ, Err, IfNone, IfOk, None, Ok, Option, Result, Some, ap, inl, inr, subst, sym}
use Rattle.saga_history.specs.declared.events.Event.{Event}
use Rattle.saga_history.specs.declared.events.Event.TheVariants as event
use Rattle.saga_history.specs.declared.tasks.Outcome.{Outcome}
use Rattle.saga_history.specs.Changes.{mark_of, past}
use Rattle.saga_history.proofs.MergeLemmas.{past_push}
use Rattle.saga_core.specs.Book.{Book, with_event}
use Rattle.saga_desk.specs.Job.{Job}
use Rattle.saga_desk.specs.Told.{AreTold, HoldsTold, IsTold}
use Rattle.saga_desk.specs.Effects.{Serves}
use Rattle.saga_desk.specs.Rounds.{IsFree, WasFoundAs, WasFree, WasLookedAt, after}
use Rattle.saga_desk.specs.Seat.{Seat}
use Rattle.saga_desk.specs.Signs.{Shows, shown_by}
use Rattle.saga_desk.specs.declared.jobs.Claim.{Claim}
use Rattle.saga_desk.specs.declared.jobs.Claim.TheVariants.{Run, Undo, Plan, Idle, Settled}
use Rattle.saga_desk.specs.declared.rounds.Found.{Found}
use Rattle.saga_desk.specs.declared.rounds.Found.TheVariants as found
use Rattle.saga_desk.specs.declared.rounds.Round.{Round}
use Rattle.saga_desk.specs.declared.signs.Shown.TheVariants as shown

-- what is shown after a claim holds of the book after it
pub served_shows : (old new : Book) (before after : Seat) (claim : Claim) → Serves old new before after claim → Shows (shown_by claim) new
served_shows old new before after (Run job) is = tt
served_shows old new before after (Undo job) is = tt
served_shows old new before after (Plan job case) is = tt
served_shows old new before after Idle is = subst (Shows shown.Idle) (sym is.2.book) (is.0, is.1)
served_shows old new before after Settled is = subst (Shows shown.Over) (sym is.1.book) is.0

pub free_by : (old new : Round) (f : Found) → IsFree f → new ≡ after old f → WasFree old new
free_by old new f (inl idle) is = inl (is ∙ ap (after old) idle)
free_by old new f (inr over) is = inr (is ∙ ap (after old) over)

pub found_free : (b : Book) (old new : Round) → WasFoundAs b old new → WasFree old new
found_free b old new (inl over) = inr over.1
found_free b old new (inr idle) = inl idle.1

pub found_looked : (b : Book) (old new : Round) → WasFoundAs b old new → WasLookedAt old new
found_looked b old new (inl over) = (found.Over, over.1)
found_looked b old new (inr idle) = (found.Idle, idle.1)

pub where_none : {X E P Q : Type 0} (r : Result (Option X) E) → IfOk r (λ o. IfNone o P) → (P → Q) → IfOk r (λ o. IfNone o Q)
where_none (Ok None) h f = f h
where_none (Ok (Some x)) h f = tt
where_none (Err e) h f = tt

-- what may be told of a book may be told of it after one event more that nobody tells
told_more : (may : Job → Outcome → Type 0) (may_abort : ℕ → Type 0) (b : Book) (e : Event) → HoldsTold may may_abort b
    → IsTold may may_abort b.shelf (past b.history) (mark_of e) → HoldsTold may may_abort (with_event b e)
told_more may may_abort b e holds told = subst (AreTold may may_abort b.shelf) (sym (past_push b.history e)) (told, holds)

pub told_served : (may : Job → Outcome → Type 0) (may_abort : ℕ → Type 0) (old new : Book) (before after : Seat) (claim : Claim) → Serves old new before after claim
    → HoldsTold may may_abort old → HoldsTold may may_abort new
told_served may may_abort old new before after (Run job) is holds =
    subst (HoldsTold may may_abort) (sym is.2.event) (told_more may may_abort old (event.StartRun job.saga job.step) holds tt)
told_served may may_abort old new before after (Undo job) is holds =
    subst (HoldsTold may may_abort) (sym is.2.event) (told_more may may_abort old (event.StartUndo job.saga job.step) holds tt)
told_served may may_abort old new before after (Plan job case) is holds =
    subst (HoldsTold may may_abort) (sym is.3.event) (told_more may may_abort old (event.StartPlan job.saga) holds tt)
told_served may may_abort old new before after Idle is holds = subst (HoldsTold may may_abort) (sym is.2.book) holds
told_served may may_abort old new before after Settled is holds = subst (HoldsTold may may_abort) (sym is.1.book) holds
