-- Laws of refusals: at most one refusal of each call applies.
use Rattle.std.specs.Prelude.{◌≡◌, ℕ, List}
use Rattle.saga_case.specs.declared.states.StepState.{StepState}
use Rattle.saga_case.specs.Situation.{Situation}
use Rattle.saga_history.specs.declared.transitions.Transition.{Transition}
use Rattle.saga_history.specs.Changes.{Change}
use Rattle.saga_core.specs.Book.{Book}
use Rattle.saga_core.specs.Refusals.{OpenRefused, TakeRefused, ReportRefused, SagaRefused, DropRefused, AdoptIsRefused}
use Rattle.saga_core.specs.declared.refusals.AdoptRefusal.{AdoptRefusal}
use Rattle.saga_core.specs.declared.refusals.DropRefusal.{DropRefusal}
use Rattle.saga_core.specs.declared.refusals.OpenRefusal.{OpenRefusal}
use Rattle.saga_core.specs.declared.refusals.ReportRefusal.{ReportRefusal}
use Rattle.saga_core.specs.declared.refusals.SagaRefusal.{SagaRefusal}
use Rattle.saga_core.specs.declared.refusals.TakeRefusal.{TakeRefusal}

abbrev pub HasOneOpenRefusal : Book → ℕ → Type 0
HasOneOpenRefusal b k = (v w : OpenRefusal) → OpenRefused b k v → OpenRefused b k w → v ≡ w

abbrev pub HasOneTakeRefusal : Book → ℕ → ℕ → Transition → Type 0
HasOneTakeRefusal b i s t =
    (v w : TakeRefusal) → TakeRefused b i s t v → TakeRefused b i s t w → v ≡ w

abbrev pub HasOneReportRefusal : Book → ℕ → ℕ → StepState → Type 0
HasOneReportRefusal b i s x =
    (v w : ReportRefusal) → ReportRefused b i s x v → ReportRefused b i s x w → v ≡ w

abbrev pub HasOneSagaRefusal : Book → ℕ → Change → Type 0
HasOneSagaRefusal b i c =
    (v w : SagaRefusal) → SagaRefused b i c v → SagaRefused b i c w → v ≡ w

abbrev pub HasOneDropRefusal : Book → ℕ → Type 0
HasOneDropRefusal b i = (v w : DropRefusal) → DropRefused b i v → DropRefused b i w → v ≡ w

abbrev pub HasOneAdoptRefusal : Book → ℕ → Situation → Type 0
HasOneAdoptRefusal b i case =
    (v w : AdoptRefusal) → AdoptIsRefused b i case v → AdoptIsRefused b i case w → v ≡ w
