-- The reply to a request, and the events that it adds to the history of the book.
use Rattle.std.specs.Prelude.{◌≡◌, ℕ, ◌<◌, ◌≤◌, ◌⊎◌, ◌↔◌, ◌∷◌, ◌++◌, [], List, Bool, IsTrue, Option, Result, Ok, Err, codes, flat_map, length}
use Rattle.saga_def.specs.Contents.{Contents}
use Rattle.saga_history.specs.declared.events.Event.{Event}
use Rattle.saga_history.specs.declared.events.Event.TheVariants as event
use Rattle.saga_history.specs.declared.tasks.Kind.{Kind}
use Rattle.saga_history.specs.declared.tasks.Outcome.{Outcome}
use Rattle.saga_history.specs.declared.tasks.Phase.{Phase}
use Rattle.saga_history.specs.declared.tasks.Task.{Task}
use Rattle.saga_history.specs.declared.tasks.Task.TheVariants.{Plan}
use Rattle.saga_history.specs.declared.transitions.Transition.{Transition}
use Rattle.saga_history.specs.declared.transitions.Transition.TheVariants.{StartRun, StartUndo}
use Rattle.saga_history.specs.Changes.{Change, aborts, saga_of, starts_plan, step_event}
use Rattle.saga_history.specs.Rules.{StepMay}
use Rattle.saga_history.specs.Tasks.{IsEndOf}
use Rattle.saga_rows.specs.Limits.{max_rows}
use Rattle.saga_core.specs.Book.{Book, Allows, sagas_in, with_event}
use Rattle.saga_core.specs.Refusals.{IsUnknown, OfSaga, OpenRefused, SagaRefused}
use Rattle.saga_core.specs.Tasks.{AllAreOver, IsFirstTask, MayStart, NoTaskIsAllowed, StandsAt}
use Rattle.saga_core.specs.declared.refusals.OpenRefusal.TheVariants as opening
use Rattle.saga_core.specs.declared.refusals.SagaRefusal.TheVariants as saga
use Rattle.saga_log.specs.Logs.{event_line}
use Rattle.saga_logged.specs.BookLog.{IsBookLog}
use Rattle.saga_drive.specs.declared.attempts.Attempt.{Attempt}
use Rattle.saga_drive.specs.declared.openings.Wanted.{Wanted}
use Rattle.saga_views.specs.Busy.{busy_text}
use Rattle.saga_views.specs.Lists.{TellsList}
use Rattle.saga_views.specs.Ready.{TellsReady}
use Rattle.saga_views.specs.Shown.{TellsSaga}
use Rattle.saga_views.specs.Status.{TellsStatus}
use Rattle.saga_drive.specs.declared.replies.Reply.{Reply}
use Rattle.saga_drive.specs.declared.requests.Request.{Request}
use Rattle.saga_drive.specs.declared.requests.Request.TheVariants as request
use Rattle.saga_drive.specs.declared.requests.RequestFault.{RequestFault}
use Rattle.saga_drive.specs.declared.responses.Response.{Response}
use Rattle.saga_drive.specs.declared.responses.Response.TheVariants as response
use Rattle.saga_drive.specs.Attempts.{IsMeant, IsNotTaken, IsOtherAttempt, number_of}
use Rattle.saga_drive.specs.Starts.{AreReadBack, Starts, after, task_of}
use Rattle.saga_drive.specs.Many.{TakesMany}
use Rattle.saga_drive.specs.Openings.{IsNext, IsNotNext, IsWanted, NoneIsWanted, next_number}
use Rattle.saga_drive.specs.Replies.{text_of, lines_of, fault_text, refusal_text, memory_word, word_of_fault, event_text, idle_text}
use Rattle.saga_drive.specs.Requests.{ReadsRequest}
use Rattle.saga_drive.specs.Room.{Fits, IsTooMuch}

-- no event was added, and the reply is this text
pub record IsSaid (said : List ℕ) (gained : List Event) (text : List ℕ) : Type 0 where
  pub none : gained ≡ []
  pub text_is : text ≡ said

abbrev pub IsRefusal : List ℕ → List Event → List ℕ → Type 0
IsRefusal word gained text = IsSaid (refusal_text word) gained text

-- no event was added, and the property holds of the reply
pub record Tells (P : List ℕ → Type 0) (gained : List Event) (text : List ℕ) : Type 0 where
  pub none : gained ≡ []
  pub told : P text

-- the only added event is this one, which the rules allow; the reply has the event and the phase of its saga after it
pub record TellsEvent (book : Book) (e : Event) (gained : List Event) (text : List ℕ) : Type 0 where
  pub allowed : Allows book e
  pub only : gained ≡ e ∷ []
  pub phase : Phase
  pub stands : StandsAt (with_event book e) (saga_of e) phase
  pub text_is : text ≡ event_text e phase

-- ---- each request

-- opens a saga whose number is the next one; or refuses with the first reason that applies
abbrev pub Opens : Book → Wanted → Option ℕ → List Event → List ℕ → Type 0
Opens book wanted saga gained text =
    ((k : ℕ) × IsWanted book.shelf wanted k × IsNext saga book × TellsEvent book (event.Open (next_number book) k) gained text)
    ⊎ (NoneIsWanted book.shelf wanted × IsRefusal (codes "no-such-definition") gained text)
    ⊎ (((k : ℕ) × IsWanted book.shelf wanted k) × IsNotNext saga book × IsRefusal (codes "not-next") gained text)
    ⊎ (((k : ℕ) × IsWanted book.shelf wanted k × OpenRefused book k opening.Full) × IsNext saga book
    × IsRefusal (codes "full") gained text)

-- a task starts, and the reply has its text
abbrev pub StartsAlone : Book → Task → List Event → List ℕ → Type 0
StartsAlone book t gained text = (told : List ℕ) × Starts book t gained told × (text ≡ told ++ codes "\n")

-- the task of a step starts, which is its action or its compensation; or a refusal
abbrev pub NeitherMay : Contents → List Change → ℕ → Type 0
NeitherMay d l s = (s < length d.steps) × (StepMay d l s StartRun → ⊥) × (StepMay d l s StartUndo → ⊥)

abbrev pub TakesStep : Book → ℕ → ℕ → List Event → List ℕ → Type 0
TakesStep book i s gained text =
    ((kind : Kind) × MayStart book (task_of kind i s) × StartsAlone book (task_of kind i s) gained text)
    ⊎ (IsUnknown book i × IsRefusal (codes "no-such-saga") gained text)
    ⊎ (OfSaga book i (λ d l. length d.steps ≤ s) × IsRefusal (codes "no-such-step") gained text)
    ⊎ (OfSaga book i (λ d l. NeitherMay d l s) × IsRefusal (codes "not-now") gained text)

-- the plan of a saga starts and ends; or a refusal
abbrev pub TakesPlan : Book → ℕ → List Event → List ℕ → Type 0
TakesPlan book i gained text =
    (Allows book (event.StartPlan i) × StartsAlone book (Plan i) gained text)
    ⊎ (SagaRefused book i starts_plan saga.NoSuchSaga × IsRefusal (codes "no-such-saga") gained text)
    ⊎ (SagaRefused book i starts_plan saga.NotNow × IsRefusal (codes "not-now") gained text)

-- no task may start, and the reply says whether each saga is ended or stuck
pub record IsIdle (book : Book) (gained : List Event) (text : List ℕ) : Type 0 where
  pub none : NoTaskIsAllowed book
  pub settled : Bool
  pub settled_is : IsTrue settled ↔ AllAreOver book
  pub said : IsSaid (idle_text settled) gained text

-- the first task in the order of sagas and then of steps
abbrev pub TakesNext : Book → List Event → List ℕ → Type 0
TakesNext book gained text =
    ((t : Task) × IsFirstTask book t × StartsAlone book t gained text) ⊎ IsIdle book gained text

-- the action or the compensation of the step ends by this transition, and the report refers to this attempt
abbrev pub IsEnd : Option Attempt → Outcome → ℕ → Transition → Contents → List Change → Type 0
IsEnd meant outcome s t d l = (kind : Kind) × IsEndOf kind outcome t × IsMeant meant kind (number_of kind l s)

abbrev pub Reports : Book → ℕ → ℕ → Option Attempt → Outcome → List Event → List ℕ → Type 0
Reports book i s meant outcome gained text =
    ((t : Transition) × TellsEvent book (step_event i s t) gained text
    × OfSaga book i (IsEnd meant outcome s t))
    ⊎ (IsUnknown book i × IsRefusal (codes "no-such-saga") gained text)
    ⊎ (OfSaga book i (λ d l. length d.steps ≤ s) × IsRefusal (codes "no-such-step") gained text)
    ⊎ (OfSaga book i (λ d l. IsNotTaken d l s) × IsRefusal (codes "not-taken") gained text)
    ⊎ (OfSaga book i (λ d l. IsOtherAttempt meant d l s) × IsRefusal (codes "other-attempt") gained text)

abbrev pub Aborts : Book → ℕ → List Event → List ℕ → Type 0
Aborts book i gained text =
    TellsEvent book (event.Abort i) gained text
    ⊎ (SagaRefused book i aborts saga.NoSuchSaga × IsRefusal (codes "no-such-saga") gained text)
    ⊎ (SagaRefused book i aborts saga.NotNow × IsRefusal (codes "not-now") gained text)

-- the state of the saga
abbrev pub Shows : Book → ℕ → List Event → List ℕ → Type 0
Shows book i gained text =
    Tells (TellsSaga book i) gained text
    ⊎ (IsUnknown book i × IsRefusal (codes "no-such-saga") gained text)

abbrev pub Meets : Book → Request → List Event → List ℕ → Type 0
Meets book (request.Open wanted saga) = Opens book wanted saga
Meets book request.Next = TakesNext book
Meets book (request.NextMany most) = TakesMany book most
Meets book (request.TakeStep i s) = TakesStep book i s
Meets book (request.TakePlan i) = TakesPlan book i
Meets book (request.Report i s meant outcome) = Reports book i s meant outcome
Meets book (request.Abort i) = Aborts book i
Meets book (request.Show i) = Shows book i
Meets book request.Busy = IsSaid (busy_text book)
Meets book (request.Ready from) = Tells (TellsReady book from)
Meets book (request.Sagas from phase) = Tells (TellsList book from phase)
Meets book request.Status = Tells (TellsStatus book)
Meets book (request.Define text) = IsRefusal (codes "fixed-shelf")

-- ---- the free space of the log

-- if a saga is opened, the free space suffices for it
abbrev pub OpensWithin : Book → Book → ℕ → Type 0
OpensWithin old new room = (new ≡ old) ⊎ ((k : ℕ) × (new ≡ with_event old (event.Open (next_number old) k)) × Fits old k room)

-- a saga with that definition could be opened, but the free space of the log does not suffice
pub record LacksRoom (book : Book) (room : ℕ) (wanted : Wanted) (saga : Option ℕ) : Type 0 where
  pub index : ℕ
  pub is : IsWanted book.shelf wanted index
  pub next : IsNext saga book
  pub few : sagas_in book.history < max_rows
  pub past : IsTooMuch book index room

-- ---- any line

-- the book's history gained exactly these events; the lines of the reply are their log lines; each event is read back
-- from its line
pub record Gains (old new : Book) (reply : Reply) (gained : List Event) : Type 0 where
  pub grows : new ≡ after old gained
  pub logged : lines_of reply ≡ flat_map event_line gained
  pub back : AreReadBack gained

-- the request is executed or refused
pub record IsMet (old new : Book) (request : Request) (reply : Reply) : Type 0 where
  pub gained : List Event
  pub gains : Gains old new reply gained
  pub meets : Meets old request gained (text_of reply)

-- the request is executed or refused, or the free space of the log does not suffice
abbrev pub IsOpened : Book → Book → ℕ → Wanted → Option ℕ → Reply → Type 0
IsOpened old new room wanted saga reply =
    (IsMet old new (request.Open wanted saga) reply × OpensWithin old new room)
    ⊎ (LacksRoom old room wanted saga × Gains old new reply [] × (text_of reply ≡ refusal_text (codes "log-full")))

abbrev pub IsDone : Book → Book → ℕ → Request → Reply → Type 0
IsDone old new room (request.Open wanted saga) reply = IsOpened old new room wanted saga reply
IsDone old new room r reply = IsMet old new r reply

-- the request of the line is executed or refused, or the reply has the fault of the line
abbrev pub IsReplied : Book → Book → ℕ → Result Request RequestFault → Reply → Type 0
IsReplied old new room (Ok request) reply = IsDone old new room request reply
IsReplied old new room (Err fault) reply = Gains old new reply [] × (text_of reply ≡ fault_text (word_of_fault fault))

-- no event was added because memory ran out
pub record LacksMemory (old new : Book) (reply : Reply) : Type 0 where
  pub gains : Gains old new reply []
  pub text_is : text_of reply ≡ fault_text memory_word

-- the reply to a line, if the log has `room` bytes of free space
abbrev pub IsAnswer : Book → Book → ℕ → List ℕ → Reply → Type 0
IsAnswer old new room line reply =
    ((read : Result Request RequestFault) × ReadsRequest line read × IsReplied old new room read reply) ⊎ LacksMemory old new reply

-- ---- over a shelf that may grow

-- the shelf and the numbering are unchanged
abbrev pub KeepsShelf : Book → Book → Type 0
KeepsShelf old new = new ≡ record old { history = new.history }

-- the line is a request to add the definition in this text to the shelf
abbrev pub Defines : List ℕ → List ℕ → Type 0
Defines line text = ReadsRequest line (Ok (request.Define text))

-- the reply to a line that adds no definition, or to any line if memory runs out; or the text of a definition, and the
-- book is unchanged
abbrev pub IsResponse : Book → Book → ℕ → List ℕ → Response → Type 0
IsResponse old new room line (response.Reply reply) =
    IsAnswer old new room line reply × ((text : List ℕ) → Defines line text → text_of reply ≡ fault_text memory_word)
IsResponse old new room line (response.Define text) = (new ≡ old) × Defines line text

-- the log of the old book with the lines of the reply is the log of the new book
abbrev pub LogsReply : Book → Book → Response → Type 0
LogsReply old new (response.Reply reply) = (l : List ℕ) → IsBookLog old l → IsBookLog new (l ++ lines_of reply)
LogsReply old new (response.Define text) = (l : List ℕ) → IsBookLog old l → IsBookLog new l
