-- What is noted of the events that a book gains.
use Rattle.std.proofs.Common.{◌≡◌, ◌⊎◌, inl, inr, ℕ, ◌+◌, ◌++◌, ◌∷◌, Bool, true, false, List, [], append_assoc, refl, ap, subst, ◌∙◌}
use Rattle.std.specs.Prelude.{nat_lt, if◌then◌else◌}
use Rattle.saga_case.specs.declared.answers.Answer.{Answer}
use Rattle.std.proofs.lemmas.List.Elements.{filter_map-append}
use Rattle.saga_core.specs.Book.{Book, with_event}
use Rattle.saga_core.specs.Refusals.{IsReported}
use Rattle.saga_history.specs.Changes.{step_event}
use Rattle.saga_history.specs.declared.events.Event.{Event}
use Rattle.saga_history.specs.declared.events.Event.TheVariants as event
use Rattle.saga_history.specs.declared.tasks.Kind.TheVariants.{Run, Undo}
use Rattle.saga_history.specs.declared.tasks.Outcome.TheVariants.{Done, Void, Failed}
use Rattle.saga_history.specs.declared.tasks.Outcome.{Outcome}
use Rattle.saga_history.specs.declared.transitions.Transition.{Transition}
use Rattle.saga_history.specs.declared.transitions.Transition.TheVariants.{Fail, Missed}
use Rattle.saga_trials.specs.declared.trips.Entry.{Entry}
use Rattle.saga_trials.specs.declared.trips.Entry.TheVariants.{Booked, Refused, Cancelled}
use Rattle.saga_trials.specs.Entries.{entry_of, entries_of, AreNoted}

-- a book that is another one with one more event
gains : (old new : Book) (e : Event) → new ≡ with_event old e
    → entries_of new.history ≡ entries_of old.history ++ entries_of (e ∷ [])
gains old new e is = ap (λ (b : Book). entries_of b.history) is ∙ filter_map-append entry_of old.history (e ∷ [])

-- one after the other
pub noted_both : (old mid new : Book) (xs ys : List Entry) → AreNoted old mid xs → AreNoted mid new ys → AreNoted old new (xs ++ ys)
noted_both old mid new xs ys first second =
    second ∙ ap (λ zs. zs ++ ys) first ∙ append_assoc (entries_of old.history) xs ys

pub noted_event : (old new : Book) (e : Event) → new ≡ with_event old e
    → AreNoted old new (entries_of (e ∷ []))
noted_event old new e is = gains old new e is

-- a step that is run and then done, or failed
pub noted_booked : (old mid new : Book) (i s : ℕ)
    → mid ≡ with_event old (event.StartRun i s) → IsReported Run mid new i s Done
    → AreNoted old new (Booked i s ∷ [])
noted_booked old mid new i s began (t, (_, _, is), gained) =
    noted_both old mid new [] (Booked i s ∷ []) (noted_event old mid (event.StartRun i s) began)
    (subst (λ (t' : Transition). AreNoted mid new (entries_of (step_event i s t' ∷ []))) is
    (noted_event mid new (step_event i s t) gained.gains))

refused : (again : Bool) (i s : ℕ) → entries_of (step_event i s (if again then Missed else Fail) ∷ []) ≡ Refused i s ∷ []
refused true i s = refl
refused false i s = refl

noted_refused : (old mid new : Book) (i s : ℕ)
    → mid ≡ with_event old (event.StartRun i s) → IsReported Run mid new i s Failed
    → AreNoted old new (Refused i s ∷ [])
noted_refused old mid new i s began (t, (misses, tries, is), gained) =
    noted_both old mid new [] (Refused i s ∷ []) (noted_event old mid (event.StartRun i s) began)
    (subst (λ (xs : List Entry). AreNoted mid new xs)
    (ap (λ (t' : Transition). entries_of (step_event i s t' ∷ [])) is ∙ refused (nat_lt (misses + 1) tries) i s)
    (noted_event mid new (step_event i s t) gained.gains))

-- a step that is run without an effect
noted_void : (old mid new : Book) (i s : ℕ)
    → mid ≡ with_event old (event.StartRun i s) → IsReported Run mid new i s Void
    → AreNoted old new (Refused i s ∷ [])
noted_void old mid new i s began (t, (_, _, is), gained) =
    noted_both old mid new [] (Refused i s ∷ []) (noted_event old mid (event.StartRun i s) began)
    (subst (λ (t' : Transition). AreNoted mid new (entries_of (step_event i s t' ∷ []))) is
    (noted_event mid new (step_event i s t) gained.gains))

-- in both cases nothing was booked
pub noted_unbooked : (old mid new : Book) (i s : ℕ) (o : Outcome) → (o ≡ Void) ⊎ (o ≡ Failed)
    → mid ≡ with_event old (event.StartRun i s) → IsReported Run mid new i s o
    → AreNoted old new (Refused i s ∷ [])
noted_unbooked old mid new i s o (inl is) began told = noted_void old mid new i s began (subst (λ (o' : Outcome). IsReported Run mid new i s o') is told)
noted_unbooked old mid new i s o (inr is) began told = noted_refused old mid new i s began (subst (λ (o' : Outcome). IsReported Run mid new i s o') is told)

-- a compensation that is begun and done
pub noted_cancelled : (old mid new : Book) (i s : ℕ)
    → mid ≡ with_event old (event.StartUndo i s) → IsReported Undo mid new i s Done
    → AreNoted old new (Cancelled i s ∷ [])
noted_cancelled old mid new i s began (t, (_, _, is), gained) =
    noted_both old mid new [] (Cancelled i s ∷ []) (noted_event old mid (event.StartUndo i s) began)
    (subst (λ (t' : Transition). AreNoted mid new (entries_of (step_event i s t' ∷ []))) is
    (noted_event mid new (step_event i s t) gained.gains))

-- a plan that is begun and adopted
pub noted_planned : (old mid new : Book) (i : ℕ) (a : Answer)
    → mid ≡ with_event old (event.StartPlan i)
    → new ≡ with_event mid (event.Adopt i a)
    → AreNoted old new []
noted_planned old mid new i a began ended =
    noted_both old mid new [] [] (noted_event old mid (event.StartPlan i) began) (noted_event mid new (event.Adopt i a) ended)
