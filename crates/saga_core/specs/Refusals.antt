-- The meaning of the result of a call on a book.
use Rattle.std.specs.Prelude.{◌≡◌, ◌≢◌, ℕ, ◌<◌, ◌≤◌, List, None, IsSomeAnd, length}
use Rattle.saga_def.specs.Contents.{Contents}
use Rattle.saga_case.specs.declared.states.StepState.{StepState}
use Rattle.saga_case.specs.Situation.{Situation}
use Rattle.saga_history.specs.declared.events.Event.{Event}
use Rattle.saga_history.specs.declared.tasks.Kind.{Kind}
use Rattle.saga_history.specs.declared.tasks.Outcome.{Outcome}
use Rattle.saga_history.specs.declared.transitions.Transition.{Transition}
use Rattle.saga_history.specs.declared.turns.Turn.TheVariants.{Planning}
use Rattle.saga_history.specs.Changes.{Change, past, changes, step_event}
use Rattle.saga_history.specs.Rules.{definition, IsAllowed, SagaMay, StepMay}
use Rattle.saga_history.specs.States.{state}
use Rattle.saga_history.specs.Tasks.{IsEndOf}
use Rattle.saga_history.specs.Turns.{opened_with, present_case, turn}
use Rattle.saga_rows.specs.Limits.{max_rows}
use Rattle.saga_core.specs.Book.{Book, sagas_in, with_event, Allows, changes_in, definition_in}
use Rattle.saga_core.specs.declared.refusals.AdoptRefusal.{AdoptRefusal}
use Rattle.saga_core.specs.declared.refusals.AdoptRefusal.TheVariants as adopt
use Rattle.saga_core.specs.declared.refusals.DropRefusal.{DropRefusal}
use Rattle.saga_core.specs.declared.refusals.DropRefusal.TheVariants as drop
use Rattle.saga_core.specs.declared.refusals.OpenRefusal.{OpenRefusal}
use Rattle.saga_core.specs.declared.refusals.OpenRefusal.TheVariants as opening
use Rattle.saga_core.specs.declared.refusals.ReportRefusal.{ReportRefusal}
use Rattle.saga_core.specs.declared.refusals.ReportRefusal.TheVariants as report
use Rattle.saga_core.specs.declared.refusals.SagaRefusal.{SagaRefusal}
use Rattle.saga_core.specs.declared.refusals.SagaRefusal.TheVariants as saga
use Rattle.saga_core.specs.declared.refusals.TakeRefusal.{TakeRefusal}
use Rattle.saga_core.specs.declared.refusals.TakeRefusal.TheVariants as take

-- the saga was not opened
abbrev pub IsUnknown : Book → ℕ → Type 0
IsUnknown b i = opened_with (changes_in b i) ≡ None

-- the saga was opened, and `P` holds for its definition and its changes
abbrev pub OfSaga : Book → ℕ → (Contents → List Change → Type 0) → Type 0
OfSaga b i P = IsSomeAnd (definition_in b i) (λ d. P d (changes_in b i))

-- why no saga is opened: the first cause that applies
abbrev pub OpenRefused : Book → ℕ → OpenRefusal → Type 0
OpenRefused b k opening.NoSuchDefinition = length b.shelf ≤ k
OpenRefused b k opening.Full = (k < length b.shelf) × (sagas_in b.history ≡ max_rows)
OpenRefused b k opening.OutOfMemory = (k < length b.shelf) × (sagas_in b.history < max_rows)

-- why a transition that starts an action or a compensation is refused
abbrev pub TakeRefused : Book → ℕ → ℕ → Transition → TakeRefusal → Type 0
TakeRefused b i s t take.NoSuchSaga = IsUnknown b i
TakeRefused b i s t take.NoSuchStep = OfSaga b i (λ d l. length d.steps ≤ s)
TakeRefused b i s t take.NotNow = OfSaga b i (λ d l. (s < length d.steps) × (StepMay d l s t → ⊥))
TakeRefused b i s t take.OutOfMemory = Allows b (step_event i s t)

-- why the report of an outcome is refused for a step that would have to be in state `x`
abbrev pub ReportRefused : Book → ℕ → ℕ → StepState → ReportRefusal → Type 0
ReportRefused b i s x report.NoSuchSaga = IsUnknown b i
ReportRefused b i s x report.NoSuchStep = OfSaga b i (λ d l. length d.steps ≤ s)
ReportRefused b i s x report.NotTaken = OfSaga b i (λ d l. (s < length d.steps) × (state l s ≢ x))

-- the book gained the event of a transition that was allowed
pub record GainsTransition (old new : Book) (i s : ℕ) (t : Transition) : Type 0 where
  pub allowed : Allows old (step_event i s t)
  pub gains : new ≡ with_event old (step_event i s t)

-- the book gained the event of the one allowed transition that ends the action or the compensation
-- with that outcome
abbrev pub IsReported : Kind → Book → Book → ℕ → ℕ → Outcome → Type 0
IsReported kind old new i s outcome = (t : Transition) × IsEndOf kind outcome t × GainsTransition old new i s t

-- why a change of the whole saga is refused
abbrev pub SagaRefused : Book → ℕ → Change → SagaRefusal → Type 0
SagaRefused b i c saga.NoSuchSaga = IsUnknown b i
SagaRefused b i c saga.NotNow = OfSaga b i (λ d l. SagaMay d l c → ⊥)
SagaRefused b i c saga.OutOfMemory = OfSaga b i (λ d l. SagaMay d l c)

-- the case is the current case of the saga
abbrev pub IsPresentCase : Book → ℕ → Situation → Type 0
IsPresentCase b i case = OfSaga b i (λ d l. case ≡ present_case d l)

-- why a plan is not dropped
abbrev pub DropRefused : Book → ℕ → DropRefusal → Type 0
DropRefused b i drop.NoSuchSaga = IsUnknown b i
DropRefused b i drop.NotPlanning = OfSaga b i (λ d l. turn l ≢ Planning)

-- why a verdict on a case is not adopted: the first cause that applies
abbrev pub AdoptIsRefused : Book → ℕ → Situation → AdoptRefusal → Type 0
AdoptIsRefused b i case adopt.NoSuchSaga = IsUnknown b i
AdoptIsRefused b i case adopt.NotPlanning = OfSaga b i (λ d l. turn l ≢ Planning)
AdoptIsRefused b i case adopt.Stale = OfSaga b i (λ d l. (turn l ≡ Planning) × (case ≢ present_case d l))
