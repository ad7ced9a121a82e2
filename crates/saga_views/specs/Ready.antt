-- The tasks that may start, of the sagas from a number on.
use Rattle.std.specs.Prelude.{◌≡◌, ◌≢◌, ℕ, ◌<◌, ◌≤◌, ◌+◌, ◌-◌, ◌*◌, ◌⊎◌, ◌++◌, List, [], ◌∷◌, All, AllPairs, Contains, Option, Some, None, IfSome, codes, decimal, length, map, slice_index_or}
use Rattle.std.specs.List.{concat}
use Rattle.saga_def.specs.Contents.{Contents}
use Rattle.saga_history.specs.declared.tasks.Kind.{Kind}
use Rattle.saga_history.specs.declared.tasks.Kind.TheVariants as kind
use Rattle.saga_history.specs.declared.tasks.Task.{Task}
use Rattle.saga_history.specs.declared.tasks.Task.TheVariants.{Run, Undo, Plan}
use Rattle.saga_core.specs.Book.{Book, changes_in, definition_in}
use Rattle.saga_core.specs.Tasks.{IsNotAfter, MayStart, saga_of_task}
use Rattle.saga_views.specs.Tasks.{saga_of, taken_text}
use Rattle.saga_views.specs.Words.{listed}
use Rattle.saga_views.specs.Limits.{enough_tasks}

-- each task with the property, once, in the order of sagas and then of steps
pub record ListsAll (P : Task → Type 0) (tasks : List Task) : Type 0 where
  pub only : All P tasks
  pub all : (t : Task) → P t → Contains tasks t
  pub ordered : AllPairs (λ t u. IsNotAfter t u × (t ≢ u)) tasks

-- the task precedes the tasks of a saga, if one is given
abbrev pub IsBefore : Option ℕ → Task → Type 0
IsBefore None t = Unit {0}
IsBefore (Some m) t = saga_of_task t < m

-- the task may start, its saga has a number from `from` on, and it precedes the saga `end`, if one is given
abbrev pub IsReady : Book → ℕ → Option ℕ → Task → Type 0
IsReady book from end t = MayStart book t × (from ≤ saga_of_task t) × IsBefore end t

-- after the first `enough_tasks` tasks, all tasks are of the same saga as the last of those
abbrev pub IsNotCut : List Task → Type 0
IsNotCut tasks =
    (k : ℕ) (d : Task) → enough_tasks ≤ k → k < length tasks
    → saga_of_task (slice_index_or tasks k d) ≡ saga_of_task (slice_index_or tasks (enough_tasks - 1) d)

-- the list has enough tasks, and a task of that saga may also start
pub record GoesOnAt (book : Book) (tasks : List Task) (m : ℕ) : Type 0 where
  pub enough : enough_tasks ≤ length tasks
  pub task : Task
  pub allowed : MayStart book task
  pub saga : saga_of_task task ≡ m

-- the tasks that may start from the number of a saga on, with the number from which to continue if there are more
pub record AreReady (book : Book) (from : ℕ) (tasks : List Task) (more : Option ℕ) : Type 0 where
  pub each : ListsAll (IsReady book from more) tasks
  pub not_cut : IsNotCut tasks
  pub rest : IfSome more (GoesOnAt book tasks)

-- ---- as text

abbrev pub text_by : Option Contents → (Contents → List ℕ) → List ℕ
text_by None told = []
text_by (Some d) told = told d

abbrev pub step_text : Book → Kind → ℕ → ℕ → List ℕ
step_text book kind i s = text_by (definition_in book i) (λ d. taken_text kind (saga_of i d (changes_in book i)) s)

-- the plan of a saga
abbrev pub plan_text : ℕ → List ℕ
plan_text i = concat (codes "{\"saga\":" ∷ decimal i ∷ codes ",\"task\":\"plan\"}" ∷ [])

abbrev pub text_of : Book → Task → List ℕ
text_of book (Run i s) = step_text book kind.Run i s
text_of book (Undo i s) = step_text book kind.Undo i s
text_of book (Plan i) = plan_text i

-- the start of a reply, with the saga from which to continue if there are more
abbrev pub more_text : Option ℕ → List ℕ
more_text None = codes "{"
more_text (Some m) = concat (codes "{\"more\":" ∷ decimal m ∷ codes "," ∷ [])

abbrev pub ready_text : Book → List Task → Option ℕ → List ℕ
ready_text book tasks more =
    concat (more_text more ∷ codes "\"ready\":[" ∷ listed (codes ",") (map (text_of book) tasks) ∷ codes "]}\n" ∷ [])

-- the text is such a list
pub record TellsReady (book : Book) (from : ℕ) (text : List ℕ) : Type 0 where
  pub tasks : List Task
  pub more : Option ℕ
  pub ready : AreReady book from tasks more
  pub text_is : text ≡ ready_text book tasks more

-- ---- while the list is built

-- the index of a task within its saga: a plan first, then the action and the compensation of each step
abbrev pub place_of : Task → ℕ
place_of (Run i s) = 2 * s + 1
place_of (Undo i s) = 2 * s + 2
place_of (Plan i) = 0

-- the task is of an earlier saga, or has a lower index in this saga
abbrev pub IsUpTo : ℕ → ℕ → Task → Type 0
IsUpTo i n t = (saga_of_task t < i) ⊎ ((saga_of_task t ≡ i) × (place_of t < n))

-- the task may start, and precedes that index
abbrev pub IsReadyUpTo : Book → ℕ → ℕ → ℕ → Task → Type 0
IsReadyUpTo book from i n t = MayStart book t × (from ≤ saga_of_task t) × IsUpTo i n t

-- a task was appended if it may start
abbrev pub IsAdded : Book → Task → List Task → List Task → Type 0
IsAdded book t old new = (MayStart book t × (new ≡ old ++ t ∷ [])) ⊎ ((MayStart book t → ⊥) × (new ≡ old))

-- all appended tasks are of one saga
abbrev pub AddsOf : ℕ → List Task → List Task → Type 0
AddsOf i old new = (added : List Task) × (new ≡ old ++ added) × All (λ t. saga_of_task t ≡ i) added
