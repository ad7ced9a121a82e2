-- Several tasks that start one after the other.
use Rattle.std.specs.Prelude.{◌≡◌, ℕ, ◌<◌, ◌≤◌, ◌⊎◌, ◌↔◌, ◌∷◌, ◌++◌, [], List, Bool, true, false, IsTrue, codes, flat_map, length}
use Rattle.std.specs.String.{string_bytes}
use Rattle.saga_history.specs.declared.events.Event.{Event}
use Rattle.saga_history.specs.declared.tasks.Task.{Task}
use Rattle.saga_core.specs.Book.{Book}
use Rattle.saga_core.specs.Tasks.{AllAreOver, IsFirstTask, NoTaskIsAllowed}
use Rattle.saga_log.specs.Logs.{event_line}
use Rattle.saga_views.specs.Words.{listed}
use Rattle.saga_drive.specs.declared.tellings.Telling.{Telling}
use Rattle.saga_drive.specs.Starts.{AreReadBack, Starts, after}
use Rattle.saga_drive.specs.Replies.{last_tasks_text, tasks_text}

-- tasks start one after the other, each as the first that may start, and each has a text in the reply
abbrev pub StartInTurn : List Task → Book → List Event → List (List ℕ) → Type 0
StartInTurn [] book gained told = (gained ≡ []) × (told ≡ [])
StartInTurn (t ∷ tasks) book gained told = (first : List Event) × (text : List ℕ) × (rest : List Event) × (texts : List (List ℕ))
    × IsFirstTask book t
    × Starts book t first text
    × StartInTurn tasks (after book first) rest texts
    × (gained ≡ first ++ rest)
    × (told ≡ text ∷ texts)

-- no other task may start after them, and the reply says whether each saga is ended or stuck
pub record AreTheLast (book : Book) (told : List (List ℕ)) (text : List ℕ) : Type 0 where
  pub none : NoTaskIsAllowed book
  pub settled : Bool
  pub settled_is : IsTrue settled ↔ AllAreOver book
  pub text_is : text ≡ last_tasks_text settled told

-- more tasks may follow: their number is the requested one, or memory ran out after at least one task
pub record AreTheFirst (most : ℕ) (told : List (List ℕ)) (text : List ℕ) : Type 0 where
  pub count : (length told ≡ most) ⊎ (0 < length told)
  pub text_is : text ≡ tasks_text told

-- the same tasks start as by that number of requests for the next task, until no task may start
pub record TakesMany (book : Book) (most : ℕ) (gained : List Event) (text : List ℕ) : Type 0 where
  pub tasks : List Task
  pub told : List (List ℕ)
  pub within : length tasks ≤ most
  pub begin : StartInTurn tasks book gained told
  pub end : AreTheLast (after book gained) told text ⊎ AreTheFirst most told text

-- ---- the text while the tasks start

-- the text is empty
pub record IsUntold (telling : Telling) : Type 0 where
  pub text : string_bytes telling.text ≡ []
  pub lines : string_bytes telling.lines ≡ []
  pub apart : telling.apart ≡ false

abbrev pub is_some : List (List ℕ) → Bool
is_some [] = false
is_some (text ∷ told) = true

-- this number of tasks has started, and the texts and the log lines are theirs
pub record HasStarted (old now : Book) (telling : Telling) (count : ℕ) : Type 0 where
  pub tasks : List Task
  pub told : List (List ℕ)
  pub gained : List Event
  pub counted : length tasks ≡ count
  pub told_all : length told ≡ count
  pub begin : StartInTurn tasks old gained told
  pub grows : now ≡ after old gained
  pub back : AreReadBack gained
  pub text : string_bytes telling.text ≡ listed (codes ",") told
  pub lines : string_bytes telling.lines ≡ flat_map event_line gained
  pub apart : telling.apart ≡ is_some told

-- fewer than that number of tasks have started
pub record HasStartedFewer (old now : Book) (telling : Telling) (most : ℕ) : Type 0 where
  pub count : ℕ
  pub fewer : count < most
  pub started : HasStarted old now telling count

-- exactly that number of tasks has started; or fewer, and no other task may start
abbrev pub HasStartedAll : Bool → Book → Book → Telling → ℕ → Type 0
HasStartedAll true old now telling most = HasStarted old now telling most
HasStartedAll false old now telling most = HasStartedFewer old now telling most × NoTaskIsAllowed now
