-- Cases in which all is free, and steps that cannot be undone.
use Rattle.std.proofs.Common.{ℕ, ◌≡◌, ◌≢◌, ◌<◌, ◌∙◌, [], length, get_or, sym, refl, arith, zero, suc}
use Rattle.std.specs.Prelude.{Option, Some, None, IsTrue, IfSome, slice_get, slice_index_or, option_map, unwrap_or}
use Rattle.std.proofs.lemmas.Bool.{false≢true}
use Rattle.std.proofs.lemmas.Option.{slice_get-get_or}
use Rattle.saga_def.specs.declared.steps.Price.{Price}
use Rattle.saga_def.specs.declared.steps.Price.TheVariants.{Of, Never}
use Rattle.saga_def.specs.declared.steps.Step.{Step}
use Rattle.saga_def.specs.Order.{Steps}
use Rattle.saga_case.specs.declared.states.StepState.{StepState}
use Rattle.saga_case.specs.declared.states.StepState.TheVariants.{Waiting, Running, Committed, Void, Undoing, Fixed}
use Rattle.saga_case.specs.Free.{none, CostsNothing, IsFree}
use Rattle.saga_case.specs.Prices.{leave_of}
use Rattle.saga_case.specs.States.{IsBusy}
use Rattle.saga_case.specs.Situation.{Situation, IsAtRest}
use Rattle.saga_case.specs.Terms.{terms_of, price_by, prices_below, cost_of, AtMost, IsAllowed, IsLeast}
use Rattle.saga_case.proofs.ChainLemmas.{forced_stands}

-- the sum of prices that are all 0
prices_zero : (n : ℕ) (price : ℕ → Price) → ((s : ℕ) → s < n → price s ≡ Of 0) → prices_below n price ≡ Of 0
unfolding prices_below
prices_zero zero price free = refl
prices_zero (suc n) price free = rw (prices_zero n price (λ s lt. free s (omega arith)), free n (omega arith)) refl

leave_zero : (state : StepState) (step : Step) → (IsBusy state → ⊥) → (state ≢ Fixed) → CostsNothing step → leave_of state step ≡ Of 0
leave_zero Running step rest undoable free = absurd (rest tt)
leave_zero Committed step rest undoable free = rw (free.undo, free.skip) refl
leave_zero Void step rest undoable free = rw free.skip refl
leave_zero Undoing step rest undoable free = absurd (rest tt)
leave_zero Fixed step rest undoable free = absurd (undoable refl)
leave_zero _ step rest undoable free = free.skip

not_never : (c : ℕ) → Of c ≡ Never → ⊥
not_never c e = cc

at_most_zero : (p : Price) → AtMost (Of 0) p
at_most_zero (Of c) = omega arith
at_most_zero Never = tt

any_step : Step
any_step = record { name = []; run = Never; undo = Never; skip = Never; keep = Never; tries = 0; undo_tries = 0 }

-- a price of a step that is there
price_at : (price : StepState → Step → Price) (c : Situation) (i : ℕ) (d : Step) → i < length c.definition.steps → price_by price c i ≡ price (slice_index_or c.states i Waiting) (get_or c.definition.steps i d)
price_at price c i d lt = rw (slice_get-get_or c.definition.steps i d lt) refl

pub free_is_least : (c : Situation) → IsAtRest c → IsFree c → IsLeast (terms_of c) none
free_is_least c rest free =
    let paired : length c.states ≡ length c.definition.steps = rest.states.paired in
    let all : cost_of (terms_of c) none ≡ Of 0 = prices_zero (length c.definition.steps) _ (λ s lt.
    price_at leave_of c s any_step lt
    ∙ leave_zero (slice_index_or c.states s Waiting) (get_or c.definition.steps s any_step)
    (rest.states.drained s Waiting (omega (arith, paired, lt))) (free.undoable s Waiting (omega (arith, paired, lt))) (free.prices s any_step lt)) in
    record {
      allowed = record {
        closed = record { holds = λ a b here precedes. absurd (false≢true here) };
        priced = λ never. not_never 0 (sym all ∙ never);
      };
      least = λ other allowed. rw all (at_most_zero (cost_of (terms_of c) other));
    }

pub undone_never_stands : (c : Situation) (step : ℕ) → IsAtRest c → step < length c.definition.steps → slice_index_or c.states step Waiting ≡ Committed → IfSome (slice_get c.definition.steps step) (λ (s : Step). s.undo ≡ Never) → (set : Steps) → IsAllowed (terms_of c) set → IsTrue (set step)
undone_never_stands c step rest lt committed never set allowed =
    forced_stands (terms_of c) set step lt (go (slice_get c.definition.steps step) (slice_index_or c.states step Waiting) committed never) allowed
  where
    go : (o : Option Step) (state : StepState) → state ≡ Committed → IfSome o (λ (s : Step). s.undo ≡ Never) → unwrap_or (option_map (leave_of state) o) Never ≡ Never
    go None state is h = refl
    go (Some s) state is h = rw (is, h) refl
