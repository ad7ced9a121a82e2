-- How many events a saga has.
use Rattle.std.proofs.Common.{◌≡◌, ◌≢◌, ℕ, zero, suc, ◌+◌, ◌<◌, ◌≤◌, Bool, true, false, cond, List, [], ◌∷◌, length, eqb, refl, sym, ap, ◌∙◌, inl, inr, arith}
use Rattle.saga_history.specs.Merges.{is_opening}
use Rattle.std.specs.Prelude.{All, if◌then◌else◌, count_by, sum_by}
use Rattle.std.proofs.lemmas.Bool.{cases_Bool, eq-eqb, ne_eqb}
use Rattle.std.proofs.lemmas.Option.{slice_get-get_or}
use Rattle.std.proofs.lemmas.List.Sums.{sum_by-cons}
use Rattle.saga_def.specs.Contents.{Contents}
use Rattle.saga_def.specs.Sound.{IsSound}
use Rattle.saga_case.specs.declared.answers.Answer.{Answer}
use Rattle.saga_case.specs.declared.answers.Answer.TheVariants as answer
use Rattle.saga_case.specs.declared.states.StepState.{StepState}
use Rattle.saga_case.specs.declared.states.StepState.TheVariants.{Waiting}
use Rattle.saga_case.specs.Flow.{sum_below}
use Rattle.saga_case.proofs.SumLemmas.{sum_same, sum_le, sum_add, sum_zero, sum_one}
use Rattle.saga_history.specs.declared.events.Event.{Event}
use Rattle.saga_history.specs.declared.transitions.Transition.{Transition}
use Rattle.saga_history.specs.declared.transitions.Transition.TheVariants as transition
use Rattle.saga_history.specs.Changes.{Change, opens, moves, starts_plan, drops_plan, adopts, aborts, changes}
use Rattle.saga_history.specs.States.{same_transition, transitions, state}
use Rattle.saga_history.specs.Turns.{turn, turn_of_answer, turn_after_transition, turn_after_abort, is_abort, aborted}
use Rattle.saga_history.specs.declared.turns.Turn.{Turn}
use Rattle.saga_history.specs.declared.turns.Turn.TheVariants.{Going, Draining, Planning, Stuck}
use Rattle.saga_history.specs.Rules.{tries, undo_tries, IsLegal}
use Rattle.saga_history.specs.Counts.{is_final_failure, is_failure, is_drop, is_adoption, most_events, HasFewEvents, AllHaveFewEvents}
use Rattle.saga_history.proofs.SagaLemmas.{saga_is_legal, IsLegalUnder, legal_under}
use Rattle.saga_history.specs.Tallies.{count_of, one, has_failed, has_fixed}
use Rattle.saga_history.proofs.TransitionLemmas.{count-cons, in_sequence, few_moves}
use Rattle.saga_history.proofs.HeadlineLemmas.{tally_of, definition_sound}
use Rattle.saga_history.proofs.TurnLemmas.{none_busy, no_move, any_step}

-- ---- adoptions are paid for by failures and by the abort
abbrev debt : Turn → ℕ
debt Going = 0
debt Draining = 1
debt Planning = 1
debt Stuck = 0

abbrev is_moved : Change → Bool
is_moved (moves s m) = true
is_moved _ = false

abbrev is_plan : Change → Bool
is_plan starts_plan = true
is_plan _ = false

abbrev in_plan : Turn → ℕ
in_plan Planning = 1
in_plan _ = 0

-- all seven counts after one more change
record Counts (e : Change) (l : List Change) : Type 0 where
  n_opened : count_by is_opening (e ∷ l) ≡ one (is_opening e) + count_by is_opening l
  n_moved : count_by is_moved (e ∷ l) ≡ one (is_moved e) + count_by is_moved l
  n_planned : count_by is_plan (e ∷ l) ≡ one (is_plan e) + count_by is_plan l
  n_dropped : count_by is_drop (e ∷ l) ≡ one (is_drop e) + count_by is_drop l
  n_adopted : count_by is_adoption (e ∷ l) ≡ one (is_adoption e) + count_by is_adoption l
  n_aborts_once : count_by is_abort (e ∷ l) ≡ one (is_abort e) + count_by is_abort l
  n_failed : count_by is_failure (e ∷ l) ≡ one (is_failure e) + count_by is_failure l

counts : (e : Change) (l : List Change) → Counts e l
counts e l = record {
  n_opened = count-cons is_opening e l;
  n_moved = count-cons is_moved e l;
  n_planned = count-cons is_plan e l;
  n_dropped = count-cons is_drop e l;
  n_adopted = count-cons is_adoption e l;
  n_aborts_once = count-cons is_abort e l;
  n_failed = count-cons is_failure e l;
}

-- what the counts keep
record Kept (l : List Change) : Type 0 where
  paid : count_by is_adoption l + debt (turn l) ≤ count_by is_failure l + count_by is_abort l
  planned : count_by is_plan l ≡ count_by is_drop l + count_by is_adoption l + in_plan (turn l)
  once : count_by is_abort l ≡ one (aborted l)
  opened_once : count_by is_opening l ≤ 1
  in_all : length l ≡ count_by is_opening l + count_by is_moved l + count_by is_plan l + count_by is_drop l + count_by is_adoption l + count_by is_abort l

debt_answer : (a : Answer) → (debt (turn_of_answer a) ≡ 0) × (in_plan (turn_of_answer a) ≡ 0)
debt_answer (answer.Plan plan) = (refl, refl)
debt_answer (answer.Blocked chain) = (refl, refl)

debt_move : (m : Transition) (t : Turn) → debt (turn_after_transition m t) ≤ debt t + one (is_final_failure m)
debt_move transition.StartRun t = omega arith
debt_move _ t = omega arith

plan_move : (m : Transition) (t : Turn) → (t ≡ Planning → ⊥) → in_plan (turn_after_transition m t) ≡ in_plan t
plan_move transition.Fail Planning none = absurd (none refl)
plan_move transition.UndoFail Planning none = absurd (none refl)
plan_move _ _ none = refl

plan_abort : (t : Turn) → (in_plan (turn_after_abort t) ≡ in_plan t) × (debt (turn_after_abort t) ≤ debt t + 1)
plan_abort Going = (refl, omega arith)
plan_abort _ = (refl, omega arith)

kept_none : Kept []
kept_none = record { paid = omega arith; planned = omega arith; once = refl; opened_once = omega arith; in_all = omega arith }

keeps : (d : Contents) (l : List Change) → IsLegalUnder d l → Kept l
keeps d [] legal = kept_none
keeps d (opens k ∷ l) legal =
    let n = counts (opens k) l in
    let empty : count_by is_opening l ≡ 0 = rw legal refl in
    let rest : Kept l = rw legal kept_none in
    record { paid = omega (arith, n, rest); planned = omega (arith, n, rest); once = omega (arith, n, rest); opened_once = omega (arith, n, empty); in_all = omega (arith, n, rest) }
keeps d (moves s m ∷ l) legal =
    let n = counts (moves s m) l in
    let rest = keeps d l legal.1 in
    let debts = debt_move m (turn l) in
    let still = plan_move m (turn l) (λ is. no_move d l s m legal.0 is (none_busy d l legal.1 is)) in
    record { paid = omega (arith, n, rest, debts); planned = omega (arith, n, rest, still); once = omega (arith, n, rest); opened_once = omega (arith, n, rest); in_all = omega (arith, n, rest) }
keeps d (starts_plan ∷ l) legal =
    let n = counts starts_plan l in
    let rest = keeps d l legal.1 in
    let was : debt (turn l) ≡ 1 = ap debt legal.0.0 in
    let none : in_plan (turn l) ≡ 0 = ap in_plan legal.0.0 in
    record { paid = omega (arith, n, rest, was); planned = omega (arith, n, rest, none); once = omega (arith, n, rest); opened_once = omega (arith, n, rest); in_all = omega (arith, n, rest) }
keeps d (drops_plan ∷ l) legal =
    let n = counts drops_plan l in
    let rest = keeps d l legal.1 in
    let was : debt (turn l) ≡ 1 = ap debt legal.0 in
    let some : in_plan (turn l) ≡ 1 = ap in_plan legal.0 in
    record { paid = omega (arith, n, rest, was); planned = omega (arith, n, rest, some); once = omega (arith, n, rest); opened_once = omega (arith, n, rest); in_all = omega (arith, n, rest) }
keeps d (adopts a ∷ l) legal =
    let n = counts (adopts a) l in
    let rest = keeps d l legal.1 in
    let was : debt (turn l) ≡ 1 = ap debt legal.0.0 in
    let some : in_plan (turn l) ≡ 1 = ap in_plan legal.0.0 in
    let now = debt_answer a in
    record { paid = omega (arith, n, rest, was, now); planned = omega (arith, n, rest, some, now); once = omega (arith, n, rest); opened_once = omega (arith, n, rest); in_all = omega (arith, n, rest) }
keeps d (aborts ∷ l) legal =
    let n = counts aborts l in
    let rest = keeps d l legal.1 in
    let now = plan_abort (turn l) in
    let none : one (aborted l) ≡ 0 = ap one legal.0.0 in
    record { paid = omega (arith, n, rest, now); planned = omega (arith, n, rest, now); once = omega (arith, n, rest, none); opened_once = omega (arith, n, rest); in_all = omega (arith, n, rest) }

-- ---- sums over the steps
abbrev weight : (Transition → ℕ) → Change → ℕ
weight w (moves s m) = w m
weight w _ = 0

abbrev at_step : ℕ → ℕ → ℕ → ℕ
at_step t v s = if eqb s t then v else 0

path_weight : (w : Transition → ℕ) (t : ℕ) (m : Transition) (l : List Change) (s : ℕ) → sum_by w (transitions (moves t m ∷ l) s) ≡ at_step t (w m) s + sum_by w (transitions l s)
path_weight w t m l s = elim (cases_Bool (eqb s t)) [
  | inl own ↦ rw own (sum_by-cons w m (transitions l s))
  | inr other ↦ rw other (omega arith)
]

at_itself : (t v : ℕ) → at_step t v t ≡ v
at_itself t v = rw (eq-eqb t t refl) refl

at_other : (t v s : ℕ) → s ≢ t → at_step t v s ≡ 0
at_other t v s apart = rw (ne_eqb s t apart) refl

-- what all transitions weigh is what those of each step weigh
by_steps : (w : Transition → ℕ) (d : Contents) (l : List Change) → IsLegalUnder d l → sum_by (weight w) l ≡ sum_below (length d.steps) (λ s. sum_by w (transitions l s))
by_steps w d [] legal = sym (sum_zero (length d.steps) (λ s. sum_by w (transitions [] s)) (λ s lt. refl))
by_steps w d (opens k ∷ l) legal =
    rw legal (sum_by-cons (weight w) (opens k) [] ∙ sym (sum_zero (length d.steps) (λ s. sum_by w (transitions [] s)) (λ s lt. refl)))
by_steps w d (moves t m ∷ l) legal =
    let n = length d.steps in
    let more = sum_same n (λ s. sum_by w (transitions (moves t m ∷ l) s)) (λ s. at_step t (w m) s + sum_by w (transitions l s)) (λ s lt. path_weight w t m l s) in
    let parts = sum_add n (at_step t (w m)) (λ s. sum_by w (transitions l s)) in
    let alone = sum_one n t (at_step t (w m)) legal.0.is_step (λ s lt apart. at_other t (w m) s apart) in
    let itself = at_itself t (w m) in
    let rest = by_steps w d l legal.1 in
    let here = sum_by-cons (weight w) (moves t m) l in
    omega (arith, more, parts, alone, itself, rest, here)
by_steps w d (e ∷ l) legal = omega (arith, sum_by-cons (weight w) e l, by_steps w d l legal.1)

-- ---- the number of events of a saga
abbrev unit : Transition → ℕ
unit m = 1

abbrev final_failure : Transition → ℕ
final_failure m = cond (is_final_failure m) 1 0

length-unit : (ms : List Transition) → sum_by unit ms ≡ length ms
length-unit [] = refl
length-unit (m ∷ ms) = omega (arith, sum_by-cons unit m ms, length-unit ms)

failure_parts : (m : Transition) → final_failure m ≡ one (same_transition transition.Fail m) + one (same_transition transition.UndoFail m)
failure_parts transition.StartRun = omega arith
failure_parts _ = omega arith

failures_in : (ms : List Transition) → sum_by final_failure ms ≡ count_of transition.Fail ms + count_of transition.UndoFail ms
failures_in [] = omega arith
failures_in (m ∷ ms) = omega (arith, sum_by-cons final_failure m ms, failures_in ms, failure_parts m, count-cons (same_transition transition.Fail) m ms, count-cons (same_transition transition.UndoFail) m ms)

failures_by_state : (x : StepState) (a b : ℕ) → a ≡ one (has_failed x) → b ≡ one (has_fixed x) → a + b ≤ 1
failures_by_state Waiting a b p q = omega arith
failures_by_state _ a b p q = omega arith

-- a step fails for good at most once
fails_once : (d : Contents) (l : List Change) (s : ℕ) → IsLegalUnder d l → sum_by final_failure (transitions l s) ≤ 1
fails_once d l s legal =
    let t = tally_of d l s legal in
    omega (arith, failures_in (transitions l s), failures_by_state (state l s) _ _ t.failed t.fixed)

weigh_moved : (e : Change) → weight unit e ≡ one (is_moved e)
weigh_moved (opens k) = refl
weigh_moved _ = refl

weigh_failed : (e : Change) → weight final_failure e ≡ one (is_failure e)
weigh_failed (opens k) = refl
weigh_failed _ = refl

moved_in : (l : List Change) → sum_by (weight unit) l ≡ count_by is_moved l
moved_in [] = refl
moved_in (e ∷ l) = omega (arith, sum_by-cons (weight unit) e l, moved_in l, weigh_moved e, count-cons is_moved e l)

failed_in : (l : List Change) → sum_by (weight final_failure) l ≡ count_by is_failure l
failed_in [] = refl
failed_in (e ∷ l) = omega (arith, sum_by-cons (weight final_failure) e l, failed_in l, weigh_failed e, count-cons is_failure e l)

ones : (n : ℕ) (f : ℕ → ℕ) → ((s : ℕ) → s < n → f s ≤ 1) → sum_below n f ≤ n
unfolding sum_below
ones zero f few = omega arith
ones (suc n) f few = omega (arith, ones n f (λ s lt. few s (omega arith)), few n (omega arith))

pub some_tries : (d : Contents) (s : ℕ) → IsSound d → s < length d.steps → (1 ≤ tries d s) × (1 ≤ undo_tries d s)
some_tries d s sound lt =
    let t = sound.tries s any_step lt in
    rw (slice_get-get_or d.steps s any_step lt) (t.some, t.some_undo)

-- at most two events for each try
step_short : (d : Contents) (l : List Change) → IsSound d → IsLegalUnder d l → (s : ℕ) → s < length d.steps → length (transitions l s) ≤ most_events d s
step_short d l sound legal s lt =
    let t = some_tries d s sound lt in
    few_moves (tries d s) (undo_tries d s) (transitions l s) t.0 t.1 (in_sequence d s l legal)

plan_debt : (t : Turn) → in_plan t ≤ debt t
plan_debt Going = omega arith
plan_debt _ = omega arith

once_at_most : (b : Bool) → one b ≤ 1
once_at_most true = omega arith
once_at_most false = omega arith

is_short : (d : Contents) (l : List Change) → IsSound d → IsLegalUnder d l → HasFewEvents d l
is_short d l sound legal =
    let k = keeps d l legal in
    let n = length d.steps in
    let moved = moved_in l in
    let all_moved = by_steps unit d l legal in
    let lengths = sum_same n (λ s. sum_by unit (transitions l s)) (λ s. length (transitions l s)) (λ s lt. length-unit (transitions l s)) in
    let bound = sum_le n (λ s. length (transitions l s)) (most_events d) (step_short d l sound legal) in
    let failed = failed_in l in
    let all_failed = by_steps final_failure d l legal in
    let few = ones n (λ s. sum_by final_failure (transitions l s)) (λ s lt. fails_once d l s legal) in
    let aborts_few = once_at_most (aborted l) in
    record {
      adoptions = omega (arith, k);
      plans = omega (arith, k, failed, all_failed, few, aborts_few);
      drops = omega (arith, k);
      each_step = step_short d l sound legal;
      in_all = omega (arith, k, moved, all_moved, lengths, bound, failed, all_failed, few, aborts_few, plan_debt (turn l));
    }

pub all_have_few_events : (shelf : List Contents) (h : List Event) → All IsSound shelf → IsLegal shelf h → AllHaveFewEvents shelf h
all_have_few_events shelf h sound legal = λ i d is. is_short d (changes i h) (definition_sound shelf (changes i h) d sound is) (legal_under shelf d (changes i h) (saga_is_legal shelf i h legal) is)
