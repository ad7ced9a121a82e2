-- An answer keeps a legal history legal.
use Rattle.std.proofs.Common.{◌≡◌, inl, inr, ℕ, List, [], ◌∷◌, Result, Ok, Err, sym, subst, refl, append-nil, append_assoc}
use Rattle.saga_case.specs.Right.{IsRight}
use Rattle.saga_case.specs.Terms.{terms_of}
use Rattle.saga_case.specs.declared.answers.Answer.{Answer}
use Rattle.saga_history.specs.declared.events.Event.{Event}
use Rattle.saga_history.specs.declared.events.Event.TheVariants as event
use Rattle.saga_history.specs.declared.tasks.Task.{Task}
use Rattle.saga_history.specs.declared.tasks.Task.TheVariants.{Run, Undo, Plan}
use Rattle.saga_history.specs.declared.turns.Turn.TheVariants.{Planning}
use Rattle.saga_history.specs.Changes.{past, starts_plan, step_event}
use Rattle.saga_history.specs.Rules.{IsLegal}
use Rattle.saga_history.specs.Turns.{present_case, turn}
use Rattle.saga_history.proofs.MergeLemmas.{past_push}
use Rattle.saga_core.specs.Book.{Book, Allows, IsLegalBook, with_event}
use Rattle.saga_core.specs.Refusals.{OfSaga}
use Rattle.saga_drive.specs.declared.replies.Reply.{Reply}
use Rattle.saga_drive.specs.declared.requests.Request.{Request}
use Rattle.saga_drive.specs.declared.requests.Request.TheVariants as request
use Rattle.saga_drive.specs.declared.requests.RequestFault.{RequestFault}
use Rattle.saga_drive.specs.Answers.{Gains, IsDone, IsMet, IsReplied, Meets, TellsEvent}
use Rattle.saga_drive.specs.Starts.{Starts, after, task_of}
use Rattle.saga_drive.specs.Laws.{KeepsLegal}
use Rattle.saga_drive.specs.Many.{StartInTurn}
use Rattle.saga_drive.specs.Replies.{text_of}
use Rattle.saga_drive.proofs.KnownLemmas.{weaker}
use Rattle.saga_drive.proofs.PlanLemmas.{begun}
use Rattle.saga_core.specs.Tasks.{MayStart}

-- the history is legal with those events behind it
abbrev StaysLegal : Book → List Event → Type 0
StaysLegal book gained = IsLegalBook (after book gained)

none_legal : (book : Book) (gained : List Event) → IsLegalBook book → gained ≡ [] → StaysLegal book gained
none_legal book gained legal none = subst (StaysLegal book) (sym none) (subst (λ (h : List Event). IsLegal book.shelf (past h)) (sym (append-nil book.history)) legal)

one_legal : (book : Book) (e : Event) (gained : List Event) → IsLegalBook book → Allows book e → gained ≡ e ∷ [] → StaysLegal book gained
one_legal book e gained legal allowed only = subst (StaysLegal book) (sym only) (subst (IsLegal book.shelf) (sym (past_push book.history e)) (allowed, legal))

told_legal : (book : Book) (e : Event) (gained : List Event) (text : List ℕ) → IsLegalBook book → TellsEvent book e gained text → StaysLegal book gained
told_legal book e gained text legal tells = one_legal book e gained legal tells.allowed tells.only

-- a plan that begins may end by an answer that is right for the present case
pub may_adopt : (b : Book) (i : ℕ) (a : Answer) → OfSaga b i (λ d l. IsRight (terms_of (present_case d l)) a)
    → Allows (with_event b (event.StartPlan i)) (event.Adopt i a)
may_adopt b i a right = rw (begun i b.history) (weaker b i (λ d l. IsRight (terms_of (present_case d l)) a)
    (λ d l. (turn (starts_plan ∷ l) ≡ Planning) × IsRight (terms_of (present_case d (starts_plan ∷ l))) a) (λ d l right. (refl, right)) right)

started_legal : (book : Book) (t : Task) (gained : List Event) (text : List ℕ) → IsLegalBook book → MayStart book t → Starts book t gained text
    → StaysLegal book gained
started_legal book (Run i s) gained text legal allowed takes = one_legal book (event.StartRun i s) gained legal allowed takes.only
started_legal book (Undo i s) gained text legal allowed takes = one_legal book (event.StartUndo i s) gained legal allowed takes.only
started_legal book (Plan i) gained text legal allowed plans =
    let first : StaysLegal book (event.StartPlan i ∷ []) = one_legal book (event.StartPlan i) (event.StartPlan i ∷ []) legal allowed refl in
    let both : StaysLegal (after book (event.StartPlan i ∷ [])) (event.Adopt i plans.answer ∷ []) =
    one_legal (after book (event.StartPlan i ∷ [])) (event.Adopt i plans.answer) _ first (may_adopt book i plans.answer plans.right) refl in
    subst (StaysLegal book) (sym plans.both)
    (subst (λ (h : List Event). IsLegal book.shelf (past h)) (append_assoc book.history (event.StartPlan i ∷ []) (event.Adopt i plans.answer ∷ [])) both)

in_turn_legal : (tasks : List Task) (book : Book) (gained : List Event) (told : List (List ℕ)) → IsLegalBook book → StartInTurn tasks book gained told → StaysLegal book gained
in_turn_legal [] book gained told legal begun = none_legal book gained legal begun.0
in_turn_legal (t ∷ tasks) book gained told legal (first, text, rest, texts, is_first, begins, more, all, all_told) =
    let begun : StaysLegal book first = started_legal book t first text legal is_first.allowed begins in
    subst (StaysLegal book) (sym all)
    (subst (λ (h : List Event). IsLegal book.shelf (past h)) (append_assoc book.history first rest) (in_turn_legal tasks (after book first) rest texts begun more))

meets_legal : (book : Book) (r : Request) (gained : List Event) (text : List ℕ) → IsLegalBook book → Meets book r gained text → StaysLegal book gained
meets_legal book (request.Open wanted saga) gained text legal (inl opens) = told_legal book _ gained text legal opens.3
meets_legal book (request.Open wanted saga) gained text legal (inr (inl refused)) = none_legal book gained legal refused.1.none
meets_legal book (request.Open wanted saga) gained text legal (inr (inr (inl refused))) = none_legal book gained legal refused.2.none
meets_legal book (request.Open wanted saga) gained text legal (inr (inr (inr refused))) = none_legal book gained legal refused.2.none
meets_legal book request.Next gained text legal (inl first) = started_legal book first.0 gained first.2.0 legal first.1.allowed first.2.1
meets_legal book request.Next gained text legal (inr idle) = none_legal book gained legal idle.said.none
meets_legal book (request.NextMany most) gained text legal takes = in_turn_legal takes.tasks book gained takes.told legal takes.begin
meets_legal book (request.TakeStep i s) gained text legal (inl (kind, may, begins)) = started_legal book (task_of kind i s) gained begins.0 legal may begins.1
meets_legal book (request.TakeStep i s) gained text legal (inr (inl refused)) = none_legal book gained legal refused.1.none
meets_legal book (request.TakeStep i s) gained text legal (inr (inr (inl refused))) = none_legal book gained legal refused.1.none
meets_legal book (request.TakeStep i s) gained text legal (inr (inr (inr refused))) = none_legal book gained legal refused.1.none
meets_legal book (request.TakePlan i) gained text legal (inl plans) = started_legal book (Plan i) gained plans.1.0 legal plans.0 plans.1.1
meets_legal book (request.TakePlan i) gained text legal (inr (inl refused)) = none_legal book gained legal refused.1.none
meets_legal book (request.TakePlan i) gained text legal (inr (inr refused)) = none_legal book gained legal refused.1.none
meets_legal book (request.Report i s meant outcome) gained text legal (inl (t, tells, is)) = told_legal book (step_event i s t) gained text legal tells
meets_legal book (request.Report i s meant outcome) gained text legal (inr (inl refused)) = none_legal book gained legal refused.1.none
meets_legal book (request.Report i s meant outcome) gained text legal (inr (inr (inl refused))) = none_legal book gained legal refused.1.none
meets_legal book (request.Report i s meant outcome) gained text legal (inr (inr (inr (inl refused)))) = none_legal book gained legal refused.1.none
meets_legal book (request.Report i s meant outcome) gained text legal (inr (inr (inr (inr refused)))) = none_legal book gained legal refused.1.none
meets_legal book (request.Abort i) gained text legal (inl tells) = told_legal book (event.Abort i) gained text legal tells
meets_legal book (request.Abort i) gained text legal (inr (inl refused)) = none_legal book gained legal refused.1.none
meets_legal book (request.Abort i) gained text legal (inr (inr refused)) = none_legal book gained legal refused.1.none
meets_legal book (request.Show i) gained text legal (inl shown) = none_legal book gained legal shown.none
meets_legal book (request.Show i) gained text legal (inr refused) = none_legal book gained legal refused.1.none
meets_legal book request.Busy gained text legal said = none_legal book gained legal said.none
meets_legal book (request.Ready from) gained text legal tells = none_legal book gained legal tells.none
meets_legal book (request.Sagas from phase) gained text legal tells = none_legal book gained legal tells.none
meets_legal book request.Status gained text legal tells = none_legal book gained legal tells.none
meets_legal book (request.Define definition) gained text legal refused = none_legal book gained legal refused.none

gains_legal : (old new : Book) (reply : Reply) (gained : List Event) → Gains old new reply gained → StaysLegal old gained → IsLegalBook new
gains_legal old new reply gained gains legal = subst IsLegalBook (sym gains.grows) legal

met_legal : (old new : Book) (r : Request) (reply : Reply) → IsLegalBook old → IsMet old new r reply → IsLegalBook new
met_legal old new r reply legal met = gains_legal old new reply met.gained met.gains (meets_legal old r met.gained (text_of reply) legal met.meets)

done_legal : (old new : Book) (room : ℕ) (r : Request) (reply : Reply) → IsLegalBook old → IsDone old new room r reply → IsLegalBook new
done_legal old new room (request.Open wanted saga) reply legal (inl met) = met_legal old new (request.Open wanted saga) reply legal met.0
done_legal old new room (request.Open wanted saga) reply legal (inr lacks) = gains_legal old new reply [] lacks.1 (none_legal old [] legal refl)
done_legal old new room r reply legal met = met_legal old new r reply legal met

replied_legal : (old new : Book) (room : ℕ) (read : Result Request RequestFault) (reply : Reply) → IsLegalBook old → IsReplied old new room read reply → IsLegalBook new
replied_legal old new room (Ok r) reply legal done = done_legal old new room r reply legal done
replied_legal old new room (Err fault) reply legal told = gains_legal old new reply [] told.0 (none_legal old [] legal refl)

pub keeps_legal : (old new : Book) (room : ℕ) (line : List ℕ) (reply : Reply) → KeepsLegal old new room line reply
keeps_legal old new room line reply (inl (read, reads, replied)) legal = replied_legal old new room read reply legal replied
keeps_legal old new room line reply (inr lacks) legal = gains_legal old new reply [] lacks.gains (none_legal old [] legal refl)
