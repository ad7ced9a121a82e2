-- Which steps an allowed set has, by their states.
use Rattle.std.proofs.Common.{ℕ, ◌≡◌, ◌<◌, length, refl, subst}
use Rattle.std.specs.Prelude.{Bool, true, false, Option, Some, None, slice_get, slice_index_or, option_map, unwrap_or}
use Rattle.std.proofs.lemmas.Option.{slice_get_within, get_or_from_slice_get}
use Rattle.saga_def.specs.declared.steps.Price.{Price}
use Rattle.saga_def.specs.declared.steps.Price.TheVariants.{Never}
use Rattle.saga_def.specs.declared.steps.Step.{Step}
use Rattle.saga_case.specs.declared.states.StepState.{StepState}
use Rattle.saga_case.specs.declared.states.StepState.TheVariants.{Waiting, Failed, Undone, Fixed}
use Rattle.saga_case.specs.Prices.{stand_of, leave_of}
use Rattle.saga_case.specs.Situation.{Situation, IsAtRest}
use Rattle.saga_case.specs.Terms.{terms_of, price_by}
use Rattle.saga_case.specs.Members.{AllowedSets, HasEach, HasNone}
use Rattle.saga_case.proofs.ChainLemmas.{forced_stands, forbidden_leaves}

failed_never : (aborted : Bool) (step : Step) → stand_of aborted Failed step ≡ Never
failed_never true step = refl
failed_never false step = refl

undone_never : (aborted : Bool) (step : Step) → stand_of aborted Undone step ≡ Never
undone_never true step = refl
undone_never false step = refl

-- a price that is never for a state is never at each step of that state
never_at : (price : StepState → Step → Price) (c : Situation) (s : ℕ) (state : StepState) → slice_get c.states s ≡ Some state → ((step : Step) → price state step ≡ Never) → price_by price c s ≡ Never
never_at price c s state here never =
    go (slice_get c.definition.steps s) (slice_index_or c.states s Waiting) (get_or_from_slice_get c.states s state Waiting here)
  where
    go : (o : Option Step) (found : StepState) → found ≡ state → unwrap_or (option_map (price found) o) Never ≡ Never
    go None found is = refl
    go (Some step) found is = rw is (never step)

-- a step that has a state is one of the definition
known : (c : Situation) (s : ℕ) (state : StepState) → IsAtRest c → slice_get c.states s ≡ Some state → s < length c.definition.steps
known c s state rest here = subst (λ n. s < n) rest.states.paired (slice_get_within c.states s state here)

-- where the stand price of a state is never, no allowed set has a step of it
out : (c : Situation) (state : StepState) → IsAtRest c → ((step : Step) → stand_of c.aborted state step ≡ Never) → AllowedSets (terms_of c) (HasNone c.states state)
out c state rest never set allowed step here =
    forbidden_leaves (terms_of c) set step (known c step state rest here) (never_at (stand_of c.aborted) c step state here never) allowed

pub failed_out : (c : Situation) → IsAtRest c → AllowedSets (terms_of c) (HasNone c.states Failed)
failed_out c rest = out c Failed rest (failed_never c.aborted)

pub undone_out : (c : Situation) → IsAtRest c → AllowedSets (terms_of c) (HasNone c.states Undone)
undone_out c rest = out c Undone rest (undone_never c.aborted)

pub waiting_out : (c : Situation) → IsAtRest c → c.aborted ≡ true → AllowedSets (terms_of c) (HasNone c.states Waiting)
waiting_out c rest aborted = out c Waiting rest (λ step. rw aborted refl)

pub fixed_in : (c : Situation) → IsAtRest c → AllowedSets (terms_of c) (HasEach c.states Fixed)
fixed_in c rest set allowed step here =
    forced_stands (terms_of c) set step (known c step Fixed rest here) (never_at leave_of c step Fixed here (λ s. refl)) allowed
