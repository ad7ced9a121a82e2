-- The start of a task: the events that it adds to the history, and its text in the reply.
use Rattle.std.specs.Prelude.{◌≡◌, ℕ, ◌∷◌, ◌++◌, [], List, Bool, true, false, flat_map}
use Rattle.saga_case.specs.Right.{IsRight}
use Rattle.saga_case.specs.Situation.{Situation}
use Rattle.saga_case.specs.Terms.{terms_of}
use Rattle.saga_case.specs.declared.answers.Answer.{Answer}
use Rattle.saga_history.specs.declared.events.Event.{Event}
use Rattle.saga_history.specs.declared.events.Event.TheVariants as event
use Rattle.saga_history.specs.declared.tasks.Kind.{Kind}
use Rattle.saga_history.specs.declared.tasks.Kind.TheVariants as kind
use Rattle.saga_history.specs.declared.tasks.Phase.{Phase}
use Rattle.saga_history.specs.declared.tasks.Task.{Task}
use Rattle.saga_history.specs.declared.tasks.Task.TheVariants.{Run, Undo, Plan}
use Rattle.saga_history.specs.declared.transitions.Transition.{Transition}
use Rattle.saga_history.specs.declared.transitions.Transition.TheVariants as transition
use Rattle.saga_history.specs.declared.turns.Turn.TheVariants.{Planning}
use Rattle.saga_history.specs.Changes.{step_event}
use Rattle.saga_history.specs.Turns.{present_case, turn}
use Rattle.saga_core.specs.Book.{Book}
use Rattle.saga_core.specs.Refusals.{OfSaga}
use Rattle.saga_core.specs.Saga.{HasSaga, Saga}
use Rattle.saga_core.specs.Tasks.{IsFirstTask, NoTaskIsAllowed, StandsAt, MayStart}
use Rattle.saga_log.specs.Back.{IsReadBack}
use Rattle.saga_log.specs.Logs.{event_line}
use Rattle.saga_drive.specs.declared.tellings.Telling.{Telling}
use Rattle.saga_views.specs.Tasks.{taken_text}
use Rattle.saga_drive.specs.Replies.{plan_text}
use Rattle.saga_drive.specs.Tellings.{TellsMore, TellsSame}

-- the book after some events
abbrev pub after : Book → List Event → Book
after book gained = record book { history = book.history ++ gained }

-- the action or the compensation of a step as a task, and the transition that starts it
abbrev pub task_of : Kind → ℕ → ℕ → Task
task_of kind.Run i s = Run i s
task_of kind.Undo i s = Undo i s

abbrev pub start_of : Kind → Transition
start_of kind.Run = transition.StartRun
start_of kind.Undo = transition.StartUndo

-- an action or a compensation starts, and this is its text
pub record Takes (book : Book) (kind : Kind) (i s : ℕ) (gained : List Event) (told : List ℕ) : Type 0 where
  pub only : gained ≡ step_event i s (start_of kind) ∷ []
  pub saga : Saga
  pub is : HasSaga book i saga
  pub told_is : told ≡ taken_text kind saga s

-- a plan starts and ends, with an answer that is right for the present case; its text has the phase of the saga after
-- it
pub record Plans (book : Book) (i : ℕ) (gained : List Event) (told : List ℕ) : Type 0 where
  pub answer : Answer
  pub right : OfSaga book i (λ d l. IsRight (terms_of (present_case d l)) answer)
  pub both : gained ≡ event.StartPlan i ∷ event.Adopt i answer ∷ []
  pub phase : Phase
  pub stands : StandsAt (after book gained) i phase
  pub told_is : told ≡ plan_text answer phase i

-- the saga is being planned, and that is its present case
abbrev pub HoldsPlan : Book → ℕ → Situation → Type 0
HoldsPlan book i case = OfSaga book i (λ d l. (turn l ≡ Planning) × (case ≡ present_case d l))

abbrev pub Starts : Book → Task → List Event → List ℕ → Type 0
Starts book (Run i s) gained told = Takes book kind.Run i s gained told
Starts book (Undo i s) gained told = Takes book kind.Undo i s gained told
Starts book (Plan i) gained told = Plans book i gained told

-- each event is read back from its line
abbrev pub AreReadBack : List Event → Type 0
AreReadBack [] = Unit {0}
AreReadBack (e ∷ events) = IsReadBack e × AreReadBack events

-- an allowed task starts, and its text is appended to the texts of the tasks before it
pub record Started (old new : Book) (t : Task) (before behind : Telling) : Type 0 where
  pub gained : List Event
  pub told : List ℕ
  pub grows : new ≡ after old gained
  pub back : AreReadBack gained
  pub more : TellsMore before behind told (flat_map event_line gained)
  pub allowed : MayStart old t
  pub begins : Starts old t gained told

-- the first task has started, or there is none
abbrev pub NextIsStarted : Bool → Book → Book → Telling → Telling → Type 0
NextIsStarted true old new before behind = (t : Task) × IsFirstTask old t × Started old new t before behind
NextIsStarted false old new before behind = NoTaskIsAllowed old × (new ≡ old) × TellsSame before behind

-- no event was added because memory ran out
abbrev pub IsUntouched : Book → Book → Telling → Telling → Type 0
IsUntouched old new before behind = (new ≡ old) × TellsSame before behind
