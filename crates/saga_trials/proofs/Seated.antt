-- What workers book has its seats.
use Rattle.std.proofs.Common.{◌≡◌, ℕ, Bool, true, List, [], ◌∷◌, ◌++◌, ◌∙◌, All, ap, refl, reverse, subst, sym, false}
use Rattle.std.proofs.lemmas.List.{reverse-append, reverse-reverse}
use Rattle.std.proofs.lemmas.List.Elements.{All-append, All-cons, All-nil, All-same, All-weaker, filter_map-append}
use Rattle.saga_def.specs.Contents.{Contents}
use Rattle.saga_core.specs.Book.{Book}
use Rattle.saga_desk.specs.Job.{Job, kind_of}
use Rattle.saga_history.specs.Changes.{mark_of, past}
use Rattle.saga_history.specs.declared.events.Event.{Event}
use Rattle.saga_history.specs.declared.events.Event.TheVariants as event
use Rattle.saga_history.specs.declared.tasks.Kind.{Kind}
use Rattle.saga_history.specs.declared.tasks.Kind.TheVariants.{Run}
use Rattle.saga_history.specs.declared.tasks.Outcome.{Outcome}
use Rattle.saga_history.specs.declared.tasks.Outcome.TheVariants.{Done}
use Rattle.saga_history.specs.declared.transitions.Transition.{Transition}
use Rattle.saga_history.specs.declared.transitions.Transition.TheVariants.{Commit}
use Rattle.saga_history.specs.Tasks.{IsEndOf}
use Rattle.saga_history.proofs.TaskLemmas.{of_end}
use Rattle.saga_desk.specs.Told.{AreTold, EndIsTold, HoldsTold, IsTold}
use Rattle.saga_work.specs.Answered.{MayAbort}
use Rattle.saga_work.specs.Asked.{AreAnswered}
use Rattle.saga_trials.specs.declared.agency.Agency.{Agency}
use Rattle.saga_trials.specs.declared.trips.Entry.TheVariants.{Booked, Refused, Cancelled}
use Rattle.saga_trials.specs.Entries.{entries_of, entry_of}
use Rattle.saga_trials.specs.Seats.{BookHasSeats, EntryHasSeat, HasSeat, MayAnswer}

-- an action that is done, and nothing else, ends by that transition
commits : (k : Kind) (o : Outcome) (t : Transition) → IsEndOf k o t → t ≡ Commit → (k ≡ Run) × (o ≡ Done)
commits = of_end (λ k o t. t ≡ Commit → (k ≡ Run) × (o ≡ Done))
    (λ e. (refl, refl)) (λ e. cc) (λ e. cc) (λ e. cc) (λ e. cc) (λ e. cc) (λ e. cc) (λ e. cc)

is_action : (undo : Bool) → kind_of undo ≡ Run → undo ≡ false
is_action false e = refl
is_action true e = cc

-- what was answered to a job at that step
seated_job : (agency : Agency) (shelf : List Contents) (h : List Event) (i s : ℕ) → EndIsTold (MayAnswer agency) shelf h i s Commit → HasSeat agency i s
seated_job agency shelf h i s end =
    let done : (kind_of end.job.is_undo ≡ Run) × (end.outcome ≡ Done) = commits _ end.outcome Commit end.ends refl in
    subst (λ (i' : ℕ). HasSeat agency i' s) end.saga
    (subst (λ (s' : ℕ). HasSeat agency end.job.saga s') end.step (end.told done.1 (is_action end.job.is_undo done.0)))

-- the entry of an event
seated_event : (agency : Agency) (may_abort : ℕ → Type 0) (shelf : List Contents) (h : List Event) (e : Event)
    → IsTold (MayAnswer agency) may_abort shelf h (mark_of e) → All (EntryHasSeat agency) (entries_of (e ∷ []))
seated_event agency may_abort shelf h (event.Open i k) told = All-nil (EntryHasSeat agency)
seated_event agency may_abort shelf h (event.StartRun i s) told = All-nil (EntryHasSeat agency)
seated_event agency may_abort shelf h (event.Commit i s) told = All-cons (EntryHasSeat agency) (Booked i s) [] (seated_job agency shelf h i s told) (All-nil (EntryHasSeat agency))
seated_event agency may_abort shelf h (event.Fail i s) told = All-cons (EntryHasSeat agency) (Refused i s) [] tt (All-nil (EntryHasSeat agency))
seated_event agency may_abort shelf h (event.StartUndo i s) told = All-nil (EntryHasSeat agency)
seated_event agency may_abort shelf h (event.Undone i s) told = All-cons (EntryHasSeat agency) (Cancelled i s) [] tt (All-nil (EntryHasSeat agency))
seated_event agency may_abort shelf h (event.UndoFail i s) told = All-nil (EntryHasSeat agency)
seated_event agency may_abort shelf h (event.StartPlan i) told = All-nil (EntryHasSeat agency)
seated_event agency may_abort shelf h (event.DropPlan i) told = All-nil (EntryHasSeat agency)
seated_event agency may_abort shelf h (event.Adopt i a) told = All-nil (EntryHasSeat agency)
seated_event agency may_abort shelf h (event.Missed i s) told = All-cons (EntryHasSeat agency) (Refused i s) [] tt (All-nil (EntryHasSeat agency))
seated_event agency may_abort shelf h (event.UndoMissed i s) told = All-nil (EntryHasSeat agency)
seated_event agency may_abort shelf h (event.Abort i) told = All-nil (EntryHasSeat agency)
seated_event agency may_abort shelf h (event.Void i s) told = All-cons (EntryHasSeat agency) (Refused i s) [] tt (All-nil (EntryHasSeat agency))

-- the entries of a history, by its past
seated_past : (agency : Agency) (may_abort : ℕ → Type 0) (shelf : List Contents) (h : List Event)
    → AreTold (MayAnswer agency) may_abort shelf h → All (EntryHasSeat agency) (entries_of (reverse h))
seated_past agency may_abort shelf [] told = All-nil (EntryHasSeat agency)
seated_past agency may_abort shelf (e ∷ h) told =
    let cut : entries_of (reverse (e ∷ h)) ≡ entries_of (reverse h) ++ entries_of (e ∷ []) =
    ap entries_of (reverse-append (e ∷ []) h) ∙ filter_map-append entry_of (reverse h) (e ∷ []) in
    All-same (EntryHasSeat agency) (entries_of (reverse (e ∷ h))) (entries_of (reverse h) ++ entries_of (e ∷ [])) cut
    (All-append (EntryHasSeat agency) (entries_of (reverse h)) (entries_of (e ∷ []))
    (seated_past agency may_abort shelf h told.1) (seated_event agency may_abort shelf h e told.0))

pub seated : (agency : Agency) (books : List Book) → AreAnswered (MayAnswer agency) (λ (job : Job). ⊥) books
    → All (BookHasSeats agency) books
seated agency books all =
    let may_abort : ℕ → Type 0 = MayAbort (MayAnswer agency) (λ (job : Job). ⊥) in
    All-weaker (HoldsTold (MayAnswer agency) may_abort) (BookHasSeats agency)
    (λ (b : Book). λ (told : HoldsTold (MayAnswer agency) may_abort b).
    All-same (EntryHasSeat agency) (entries_of b.history) (entries_of (reverse (past b.history)))
    (ap entries_of (sym (reverse-reverse b.history))) (seated_past agency may_abort b.shelf (past b.history) told)) books all
