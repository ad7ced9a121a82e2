-- Books that gained nothing, and what is told of them; tasks that begin.
use Rattle.std.proofs.Common.{◌≡◌, ◌∙◌, ◌++◌, ◌<◌, ◌≤◌, [], ℕ, List, arith, codes, false, flat_map, inl, length, refl, string_bytes, sym, ap, append-nil}
use Rattle.saga_history.specs.declared.events.Event.{Event}
use Rattle.saga_history.specs.declared.tasks.Kind.{Kind}
use Rattle.saga_history.specs.declared.tasks.Kind.TheVariants as kind
use Rattle.saga_history.specs.declared.tasks.Task.{Task}
use Rattle.saga_history.specs.declared.tasks.Task.TheVariants.{Run, Undo, Plan}
use Rattle.saga_history.specs.declared.transitions.Transition.TheVariants.{StartRun, StartUndo}
use Rattle.saga_history.specs.Changes.{moves}
use Rattle.saga_history.specs.Rules.{SagaMay, StepMay}
use Rattle.saga_core.specs.Book.{Book}
use Rattle.saga_core.specs.Refusals.{OfSaga, TakeRefused}
use Rattle.saga_core.specs.Saga.{HasSaga, Saga}
use Rattle.saga_core.specs.Tasks.{IsFirstTask, MayStart}
use Rattle.saga_core.specs.declared.refusals.TakeRefusal.{TakeRefusal}
use Rattle.saga_core.specs.declared.refusals.TakeRefusal.TheVariants as take
use Rattle.saga_log.specs.Logs.{event_line}
use Rattle.saga_drive.specs.declared.replies.Reply.{Reply}
use Rattle.saga_drive.specs.declared.requests.Request.{Request}
use Rattle.saga_drive.specs.declared.requests.Request.TheVariants as request
use Rattle.saga_drive.specs.declared.tellings.Telling.{Telling}
use Rattle.saga_drive.specs.Answers.{StartsAlone, Gains, IsMet, Meets, NeitherMay}
use Rattle.saga_drive.specs.Starts.{Starts, Started, Takes, start_of, task_of}
use Rattle.saga_drive.specs.Tellings.{comma_if}
use Rattle.saga_drive.specs.Replies.{lines_of, text_of}
use Rattle.saga_drive.proofs.KnownLemmas.{apart, of_saga, unknown, weaker}

pub gains_none : (book : Book) (reply : Reply) → lines_of reply ≡ [] → Gains book book reply []
gains_none book reply none = record {
  grows = sym (ap (λ h. record book { history = h }) (append-nil book.history));
  logged = none;
  back = tt;
}

pub refuse : (old new : Book) (r : Request) (reply : Reply) → new ≡ old → lines_of reply ≡ [] → Meets old r [] (text_of reply) → IsMet old new r reply
refuse old new r reply same none meets = record {
  gained = [];
  gains = record { grows = same ∙ (gains_none old reply none).grows; logged = none; back = tt };
  meets = meets;
}

-- ---- tasks of a step

-- the task that may begin is of a step
pub of_step : (b : Book) (kind : Kind) (i s : ℕ) → MayStart b (task_of kind i s) → OfSaga b i (λ d l. s < length d.steps)
of_step b kind.Run i s may = weaker b i (λ d l. SagaMay d l (moves s StartRun)) (λ d l. s < length d.steps) (λ d l may. may.is_step) may
of_step b kind.Undo i s may = weaker b i (λ d l. SagaMay d l (moves s StartUndo)) (λ d l. s < length d.steps) (λ d l may. may.is_step) may

-- where it may begin, memory alone is lacking
pub lacks_memory : (b : Book) (kind : Kind) (i s : ℕ) (why : TakeRefusal) → MayStart b (task_of kind i s) → TakeRefused b i s (start_of kind) why
    → why ≡ take.OutOfMemory
lacks_memory b kind i s take.NoSuchSaga may none = absurd (unknown b i (λ d l. s < length d.steps) none (of_step b kind i s may))
lacks_memory b kind i s take.NoSuchStep may none =
    absurd (apart b i (λ d l. s < length d.steps) (λ d l. length d.steps ≤ s) (λ d l p q. omega (arith, p, q)) (of_step b kind i s may) none)
lacks_memory b kind.Run i s take.NotNow may not =
    absurd (apart b i (λ d l. SagaMay d l (moves s StartRun)) (λ d l. (s < length d.steps) × (StepMay d l s StartRun → ⊥)) (λ d l p q. q.1 p) may not)
lacks_memory b kind.Undo i s take.NotNow may not =
    absurd (apart b i (λ d l. SagaMay d l (moves s StartUndo)) (λ d l. (s < length d.steps) × (StepMay d l s StartUndo → ⊥)) (λ d l p q. q.1 p) may not)
lacks_memory b kind i s take.OutOfMemory may lacks = refl

pub starts_step : (b : Book) (kind : Kind) (i s : ℕ) (gained : List Event) (told : List ℕ) → Takes b kind i s gained told → Starts b (task_of kind i s) gained told
starts_step b kind.Run i s gained told takes = takes
starts_step b kind.Undo i s gained told takes = takes

-- a step of which neither the action nor the compensation may begin
pub neither_may : (b : Book) (i s : ℕ) (saga : Saga) → HasSaga b i saga → s < length saga.definition.steps
    → (MayStart b (Run i s) → ⊥) → (MayStart b (Undo i s) → ⊥) → OfSaga b i (λ d l. NeitherMay d l s)
neither_may b i s saga is within run undo = of_saga b i saga (λ d l. NeitherMay d l s) is (
  within,
  (λ may. run (of_saga b i saga (λ d l. SagaMay d l (moves s StartRun)) is may)),
  (λ may. undo (of_saga b i saga (λ d l. SagaMay d l (moves s StartUndo)) is may)),
)

-- the reply that tells of one task that began
pub record TellsStarted (t : Task) (old new : Book) (reply : Reply) : Type 0 where
  pub gained : List Event
  pub gains : Gains old new reply gained
  pub allowed : MayStart old t
  pub begins : StartsAlone old t gained (text_of reply)

pub started_alone : (old new : Book) (t : Task) (before behind : Telling) (reply : Reply) → string_bytes before.text ≡ [] → string_bytes before.lines ≡ []
    → before.apart ≡ false → Started old new t before behind → text_of reply ≡ [] ++ string_bytes behind.text ++ codes "\n"
    → lines_of reply ≡ string_bytes behind.lines → TellsStarted t old new reply
started_alone old new t before behind reply no_text no_lines first b text lines =
    let alone : string_bytes behind.text ≡ b.told =
    b.more.text ∙ (ap (λ l. l ++ (comma_if before.apart ++ b.told)) no_text ∙ ap (λ p. comma_if p ++ b.told) first) in
    record {
      gained = b.gained;
      gains = record {
        grows = b.grows;
        logged = lines ∙ (b.more.lines ∙ ap (λ l. l ++ flat_map event_line b.gained) no_lines);
        back = b.back;
      };
      allowed = b.allowed;
      begins = (b.told, b.begins, text ∙ ap (λ l. l ++ codes "\n") alone);
    }

pub took_step : (kind : Kind) (i s : ℕ) (old new : Book) (reply : Reply) → TellsStarted (task_of kind i s) old new reply
    → IsMet old new (request.TakeStep i s) reply
took_step kind i s old new reply t = record { gained = t.gained; gains = t.gains; meets = inl (kind, t.allowed, t.begins) }

pub took_plan : (i : ℕ) (old new : Book) (reply : Reply) → TellsStarted (Plan i) old new reply → IsMet old new (request.TakePlan i) reply
took_plan i old new reply t = record { gained = t.gained; gains = t.gains; meets = inl (t.allowed, t.begins) }

pub took_next : (t : Task) (old new : Book) (reply : Reply) → IsFirstTask old t → TellsStarted t old new reply → IsMet old new request.Next reply
took_next t old new reply first told = record { gained = told.gained; gains = told.gains; meets = inl (t, first, told.begins) }
