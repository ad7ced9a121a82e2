-- Reports and openings that are met.
use Rattle.std.proofs.Common.{codes, ◌≡◌, ◌≢◌, ◌∙◌, ◌<◌, ◌≤◌, ℕ, List, [], ◌∷◌, ◌++◌, Option, None, Some, append-nil, ap, arith, inl, length, refl, subst, sym}
use Rattle.saga_def.specs.Contents.{Contents}
use Rattle.saga_history.specs.declared.events.Event.{Event}
use Rattle.saga_history.specs.declared.tasks.Kind.{Kind}
use Rattle.saga_history.specs.declared.tasks.Outcome.{Outcome}
use Rattle.saga_history.specs.declared.transitions.Transition.{Transition}
use Rattle.saga_history.specs.Changes.{saga_of, step_event}
use Rattle.saga_history.specs.declared.events.Event.TheVariants as event
use Rattle.saga_history.specs.States.{state}
use Rattle.saga_history.specs.Tasks.{IsEndOf, busy_state}
use Rattle.saga_core.specs.Book.{Book, with_event, Allows}
use Rattle.saga_core.specs.Refusals.{IsReported, OfSaga, ReportRefused}
use Rattle.saga_core.specs.Tasks.{StandsAt}
use Rattle.saga_core.specs.declared.refusals.ReportRefusal.{ReportRefusal}
use Rattle.saga_core.specs.declared.refusals.ReportRefusal.TheVariants as report
use Rattle.saga_log.specs.Back.{IsReadBack}
use Rattle.saga_log.specs.Logs.{event_line}
use Rattle.saga_drive.specs.declared.attempts.Attempt.{Attempt}
use Rattle.saga_drive.specs.declared.openings.Wanted.{Wanted}
use Rattle.saga_drive.specs.declared.openings.Wanted.TheVariants.{Index, Name}
use Rattle.saga_drive.specs.declared.replies.Reply.{Reply}
use Rattle.saga_drive.specs.declared.requests.Request.TheVariants as request
use Rattle.saga_drive.specs.Answers.{IsEnd, IsMet, TellsEvent}
use Rattle.saga_drive.specs.Attempts.{IsMeantAttempt}
use Rattle.saga_drive.specs.Happenings.{IsHeld}
use Rattle.saga_drive.specs.Openings.{IsNext, IsNotNext, IsWanted, next_number}
use Rattle.saga_drive.specs.Replies.{event_front, lines_of, text_of}
use Rattle.saga_history.specs.Tasks.{phase_word}
use Rattle.saga_drive.proofs.KnownLemmas.{apart, saga_of-step_event, unknown, weaker}

-- the event is told, with where its saga stands then
pub tells_event : (old new : Book) (e : Event) (i : ℕ) (front : List ℕ) (reply : Reply) → saga_of e ≡ i → Allows old e
    → new ≡ with_event old e → front ≡ event_front e → IsHeld new i front reply → TellsEvent old e (e ∷ []) (text_of reply)
tells_event old new e i front reply of allowed grows is (phase, stands, text) = record {
  allowed = allowed;
  only = refl;
  phase = phase;
  stands =
      subst (λ j. StandsAt (with_event old e) j phase) (sym of)
      (subst (λ (book : Book). StandsAt book i phase) grows stands);
  text_is = text ∙ ap (λ l. l ++ (phase_word phase ++ codes "\"}\n")) is;
}

-- an attempt that is meant may be reported
pub no_report_refused : (b : Book) (i s : ℕ) (kind : Kind) (meant : Option Attempt) (why : ReportRefusal) → OfSaga b i (λ d l. IsMeantAttempt meant kind d l s)
    → ReportRefused b i s (busy_state kind) why → ⊥
no_report_refused b i s kind meant report.NoSuchSaga attempt none = unknown b i (λ d l. IsMeantAttempt meant kind d l s) none attempt
no_report_refused b i s kind meant report.NoSuchStep attempt none =
    apart b i (λ d l. IsMeantAttempt meant kind d l s) (λ d l. length d.steps ≤ s) (λ d l a le. let lt = a.is_step in omega (arith, lt, le)) attempt none
no_report_refused b i s kind meant report.NotTaken attempt none =
    apart b i (λ d l. IsMeantAttempt meant kind d l s) (λ d l. (s < length d.steps) × (state l s ≢ busy_state kind)) (λ d l a not. not.1 a.busy) attempt none

pub reported : (old new : Book) (i s : ℕ) (kind : Kind) (meant : Option Attempt) (outcome : Outcome) (t : Transition) (front : List ℕ) (reply : Reply)
    → IsEndOf kind outcome t
    → ((u : Transition) → IsEndOf kind outcome u → Allows old (step_event i s u) → u ≡ t)
    → IsReported kind old new i s outcome
    → OfSaga old i (λ d l. IsMeantAttempt meant kind d l s)
    → front ≡ event_front (step_event i s t) → lines_of reply ≡ event_line (step_event i s t) → IsReadBack (step_event i s t) → IsHeld new i front reply
    → IsMet old new (request.Report i s meant outcome) reply
reported old new i s kind meant outcome t front reply ends only (u, ends_too, gains) attempt is lines back held =
    let same : u ≡ t = only u ends_too gains.allowed in
    let grows : new ≡ with_event old (step_event i s t) = subst (λ v. new ≡ with_event old (step_event i s v)) same gains.gains in
    let allowed : Allows old (step_event i s t) =
    subst (λ v. Allows old (step_event i s v)) same gains.allowed in
    record {
      gained = step_event i s t ∷ [];
      gains = record { grows = grows; logged = lines ∙ sym (append-nil (event_line (step_event i s t))); back = (back, tt) };
      meets = inl (
        t,
        tells_event old new (step_event i s t) i front reply (saga_of-step_event i s t) allowed grows is held,
        weaker old i (λ d l. IsMeantAttempt meant kind d l s) (IsEnd meant outcome s t) (λ d l a. (kind, ends, a.is_meant)) attempt,
      );
    }

-- no other number is the next one
pub not_next : (saga : Option ℕ) (book : Book) → (IsNext saga book → ⊥) → IsNotNext saga book
not_next None book other = other tt
not_next (Some i) book other = other

-- what is wanted is on the shelf
pub wanted_within : (shelf : List Contents) (wanted : Wanted) (k : ℕ) → IsWanted shelf wanted k → k < length shelf
wanted_within shelf (Index j) k is = omega (arith, is.0, is.1)
wanted_within shelf (Name name) k is = is.0

pub opened_by : (old new : Book) (wanted : Wanted) (saga : Option ℕ) (k n m : ℕ) (front : List ℕ) (reply : Reply) → IsWanted old.shelf wanted k → IsNext saga old
    → n ≡ next_number old → m ≡ next_number old → Allows old (event.Open m k) → new ≡ with_event old (event.Open m k)
    → front ≡ event_front (event.Open n k) → lines_of reply ≡ event_line (event.Open n k) → IsReadBack (event.Open n k) → IsHeld new m front reply
    → IsMet old new (request.Open wanted saga) reply
opened_by old new wanted saga k n m front reply is_wanted is_next first other allowed grows is lines back held =
    let i = next_number old in
    let e : Event = event.Open i k in
    let grown : new ≡ with_event old e = subst (λ j. new ≡ with_event old (event.Open j k)) other grows in
    record {
      gained = e ∷ [];
      gains = record {
        grows = grown;
        logged = lines ∙ (ap (λ j. event_line (event.Open j k)) first ∙ sym (append-nil (event_line e)));
        back = (subst (λ j. IsReadBack (event.Open j k)) first back, tt);
      };
      meets = inl (
        k,
        is_wanted,
        is_next,
        tells_event old new e i front reply refl (subst (λ j. Allows old (event.Open j k)) other allowed) grown
            (is ∙ ap (λ j. event_front (event.Open j k)) first) (subst (λ j. IsHeld new j front reply) other held),
      );
    }
