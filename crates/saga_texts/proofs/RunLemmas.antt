-- What a script tells of the events of books, and what their log tells.
use Rattle.std.proofs.Common.{◌≡◌, ◌∙◌, ◌++◌, ℕ, List, [], ◌∷◌, Ok, ap, get_or, refl, sym}
use Rattle.std.specs.List.{flat_map}
use Rattle.saga_def.specs.Contents.{Contents}
use Rattle.saga_history.specs.declared.events.Event.{Event}
use Rattle.saga_history.specs.declared.events.Mark.{Mark}
use Rattle.saga_history.specs.declared.events.Mark.TheVariants as mark
use Rattle.saga_history.specs.declared.tasks.Outcome.{Outcome}
use Rattle.saga_history.specs.declared.tasks.Outcome.TheVariants.{Done}
use Rattle.saga_history.specs.declared.transitions.Transition.{Transition}
use Rattle.saga_history.specs.Changes.{mark_of, past}
use Rattle.saga_history.specs.Merges.{IsMerge, IsMergeOf, nothing, from_first, from_second}
use Rattle.saga_history.specs.Rules.{IsLegal}
use Rattle.saga_core.specs.Book.{Book}
use Rattle.saga_desk.specs.Finish.{HeadlineHolds, MergesAreLegal, events_of}
use Rattle.saga_desk.specs.Job.{Job}
use Rattle.saga_desk.specs.Told as Told
use Rattle.saga_desk.specs.Told.{AreTold, EndIsTold}
use Rattle.saga_log.specs.Logs.{log_of as history_of}
use Rattle.saga_script.specs.declared.scripts.Script.{Script}
use Rattle.saga_script.specs.Endings.{outcome_of, asks_abort}
use Rattle.saga_script.specs.Jobs.{MayAnswer, AsksAbort, IsTold, IsAbortTold, question_of}
use Rattle.saga_script.specs.Scripts.{Tells}
use Rattle.saga_script.specs.Statements.{Statement}
use Rattle.saga_work.specs.Answered.{MayAbort}
use Rattle.saga_work.specs.Asked.{AreAnswered}
use Rattle.saga_texts.specs.Runs.{IsHeadlineLog}

-- an end that may be told, by one relation and by a weaker one
end_told : (may told : Job → Outcome → Type 0) → ((job : Job) (o : Outcome) → may job o → told job o) → (shelf : List Contents) (h : List Event)
    (i s : ℕ) (t : Transition) → EndIsTold may shelf h i s t → EndIsTold told shelf h i s t
end_told may told weaker shelf h i s t m = record {
  job = m.job;
  saga = m.saga;
  step = m.step;
  next = m.next;
  outcome = m.outcome;
  ends = m.ends;
  told = weaker m.job m.outcome m.told;
}

mark_told : (may told : Job → Outcome → Type 0) (may_abort told_abort : ℕ → Type 0) → ((job : Job) (o : Outcome) → may job o → told job o)
    → ((i : ℕ) → may_abort i → told_abort i) → (shelf : List Contents) (h : List Event) (m : Mark)
    → Told.IsTold may may_abort shelf h m → Told.IsTold told told_abort shelf h m
mark_told may told may_abort told_abort w v shelf h (mark.Commit i s) is = end_told may told w shelf h i s _ is
mark_told may told may_abort told_abort w v shelf h (mark.Fail i s) is = end_told may told w shelf h i s _ is
mark_told may told may_abort told_abort w v shelf h (mark.Undone i s) is = end_told may told w shelf h i s _ is
mark_told may told may_abort told_abort w v shelf h (mark.UndoFail i s) is = end_told may told w shelf h i s _ is
mark_told may told may_abort told_abort w v shelf h (mark.Missed i s) is = end_told may told w shelf h i s _ is
mark_told may told may_abort told_abort w v shelf h (mark.UndoMissed i s) is = end_told may told w shelf h i s _ is
mark_told may told may_abort told_abort w v shelf h (mark.Void i s) is = end_told may told w shelf h i s _ is
mark_told may told may_abort told_abort w v shelf h (mark.Abort i) is = v i is
mark_told may told may_abort told_abort w v shelf h _ is = tt

past_told : (may told : Job → Outcome → Type 0) (may_abort told_abort : ℕ → Type 0) → ((job : Job) (o : Outcome) → may job o → told job o)
    → ((i : ℕ) → may_abort i → told_abort i) → (shelf : List Contents) (h : List Event)
    → AreTold may may_abort shelf h → AreTold told told_abort shelf h
past_told may told may_abort told_abort w v shelf [] is = tt
past_told may told may_abort told_abort w v shelf (e ∷ h) is =
    (mark_told may told may_abort told_abort w v shelf h (mark_of e) is.0, past_told may told may_abort told_abort w v shelf h is.1)

-- what a script may answer is what its text's lines tell
pub answered_told : (script : Script) (statements : List Statement) (books : List Book) → Tells script statements
    → AreAnswered (MayAnswer script) (AsksAbort script) books → AreAnswered (IsTold statements) (IsAbortTold statements) books
answered_told script statements books tells h =
    let answers : (job : Job) (o : Outcome) → MayAnswer script job o → IsTold statements job o =
    λ job o is. is ∙ ap outcome_of (tells (question_of job)) in
    λ n d lt. past_told (MayAnswer script) (IsTold statements) (MayAbort (MayAnswer script) (AsksAbort script))
    (MayAbort (IsTold statements) (IsAbortTold statements)) answers
    (λ i m. record {
      job = m.job;
      saga = m.saga;
      done = answers m.job Done m.done;
      asked = sym (ap asks_abort (tells (question_of m.job))) ∙ m.asked;
    })
    (get_or books n d).shelf (past (get_or books n d).history) (h n d lt)

-- ---- one history after the other

one_after_the_other : (a b : List Event) → IsMerge a b (a ++ b)
one_after_the_other [] [] = nothing
one_after_the_other [] (e ∷ b) = from_second e [] b b (one_after_the_other [] b)
one_after_the_other (e ∷ a) b = from_first e a b (a ++ b) (one_after_the_other a b)

is_merge : (books : List Book) → IsMergeOf (events_of books) (flat_map (λ (b : Book). b.history) books)
is_merge [] = refl
is_merge (b ∷ books) = (flat_map (λ (b : Book). b.history) books, is_merge books, one_after_the_other b.history (flat_map (λ (b : Book). b.history) books))

-- the log of a run's books is read back as a legal history, of which the headline holds
pub headline_log : (shelf : List Contents) (books : List Book) (log : List ℕ) → MergesAreLegal shelf books → HeadlineHolds shelf books
    → (IsLegal shelf (past (flat_map (λ (b : Book). b.history) books)) → history_of log ≡ Ok (flat_map (λ (b : Book). b.history) books))
    → IsHeadlineLog shelf log
headline_log shelf books log legal headline back =
    let all : List Event = flat_map (λ (b : Book). b.history) books in
    let merge = is_merge books in
    record { history = all; read_back = back (legal all merge); legal = legal all merge; headline = headline all merge }
