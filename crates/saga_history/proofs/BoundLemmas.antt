-- A history in which each bound on the events of a saga is reached.
use Rattle.std.proofs.Common.{◌≡◌, ◌≢◌, ℕ, zero, suc, ◌+◌, ◌<◌, ◌≤◌, Bool, true, false, List, [], ◌∷◌, take, refl, sym, ap, ◌∙◌, arith, IsTrue}
use Rattle.std.proofs.lemmas.List.Kept.{AllPairs-cons}
use Rattle.std.proofs.lemmas.List.Elements.{All-nil, All-cons, All-contains}
use Rattle.std.specs.Prelude.{slice_index}
use Rattle.saga_def.specs.declared.steps.Need.{Need}
use Rattle.saga_def.specs.declared.steps.Step.{Step}
use Rattle.saga_def.specs.declared.steps.Price.{Price}
use Rattle.saga_def.specs.declared.steps.Price.TheVariants.{Of, Never}
use Rattle.saga_def.specs.Order.{NeedsDirectly, Precedes, member}
use Rattle.saga_case.specs.declared.states.StepState.{StepState}
use Rattle.saga_case.specs.declared.states.StepState.TheVariants.{Committed, Fixed}
use Rattle.saga_case.specs.Flow.{FitsIn, carried, sum_below}
use Rattle.saga_case.specs.Right.{IsRight}
use Rattle.saga_case.specs.Situation.{AreDrained, situation}
use Rattle.saga_case.specs.States.{IsBusy}
use Rattle.saga_case.specs.Terms.{terms_of, cost_of, prices_below}
use Rattle.saga_def.specs.Rules.{is_letter, is_name_byte, IsName, HasSmallPrices, HasTriesInRange}
use Rattle.saga_def.specs.Sound.{IsSound}
use Rattle.saga_history.specs.Changes.{past}
use Rattle.saga_history.specs.Bounds.{free_step, pair, keeping, longest, BoundsAreReached}
use Rattle.saga_history.specs.Rules.{IsLegal}

needs_none : (a b : ℕ) → NeedsDirectly [] a b → ⊥
needs_none a b needed = All-contains (λ (n : Need). ⊥) [] _ (All-nil (λ (n : Need). ⊥)) needed

none_precedes : (a b : ℕ) → Precedes [] a b → ⊥
none_precedes a b before = needs_none b _ before.chain.1

not_true : false ≡ true → ⊥
not_true e = cc

below : (a b : ℕ) → a < b → a < b
below a b lt = lt

abbrev both_committed : List StepState
both_committed = Committed ∷ Committed ∷ []

abbrev first_fixed : List StepState
first_fixed = Fixed ∷ Committed ∷ []

abbrev both_fixed : List StepState
both_fixed = Fixed ∷ Fixed ∷ []

both_drained : (a b : StepState) → (IsBusy a → ⊥) → (IsBusy b → ⊥) → AreDrained (a ∷ b ∷ [])
both_drained a b p q = All-cons (λ (s : StepState). IsBusy s → ⊥) a (b ∷ []) p (All-cons (λ (s : StepState). IsBusy s → ⊥) b [] q (All-nil (λ (s : StepState). IsBusy s → ⊥)))

drained_both_committed : AreDrained both_committed
drained_both_committed = both_drained Committed Committed (λ p. p) (λ p. p)

drained_first_fixed : AreDrained first_fixed
drained_first_fixed = both_drained Fixed Committed (λ p. p) (λ p. p)

drained_both_fixed : AreDrained both_fixed
drained_both_fixed = both_drained Fixed Fixed (λ p. p) (λ p. p)

cost_both_committed : cost_of (terms_of (situation pair both_committed true)) (member (false ∷ false ∷ [])) ≡ Of 0
unfolding prices_below
cost_both_committed = refl

cost_first_fixed : cost_of (terms_of (situation pair first_fixed true)) (member (true ∷ false ∷ [])) ≡ Of 0
unfolding prices_below
cost_first_fixed = refl

cost_both_fixed : cost_of (terms_of (situation pair both_fixed true)) (member (true ∷ true ∷ [])) ≡ Of 0
unfolding prices_below
cost_both_fixed = refl

fits_none : (p : Price) → FitsIn 0 p
fits_none (Of n) = omega arith
fits_none Never = tt

nothing_fits : (p : Price) (s : ℕ) → s < 2 → FitsIn (slice_index (0 ∷ 0 ∷ []) s) p
nothing_fits p zero lt = fits_none p
nothing_fits p (suc zero) lt = fits_none p
nothing_fits p (suc (suc s)) lt = absurd (omega (arith, lt))

-- with no needs nothing flows between steps
no_links : (test : Need → Bool) (links : List ℕ) → carried test [] links ≡ 0
unfolding carried
no_links test links = refl

value_zero : sum_below 2 (slice_index (0 ∷ 0 ∷ [])) ≡ 0
unfolding sum_below
value_zero = refl

right : (states : List StepState) (a b : Bool) → cost_of (terms_of (situation pair states true)) (member (a ∷ b ∷ [])) ≡ Of 0 → IsRight (terms_of (situation pair states true)) (keeping a b)
right states a b cost = record {
  shape = record { kept = refl; leave = refl; stand = refl; links = refl };
  closed = record { holds = λ x y held before. absurd (none_precedes x y before) };
  priced = cost;
  within = record { leave = λ s lt. nothing_fits _ s lt; stand = λ s lt. nothing_fits _ s lt };
  conserved = record { at_step = λ s lt. ap (λ v. slice_index (0 ∷ 0 ∷ []) s + v) (no_links _ [] ∙ sym (no_links _ [])) };
  valued = value_zero;
}

-- each event of the longest history is allowed after those before it
abbrev IsLegalFor : ℕ → Type 0
IsLegalFor count = IsLegal (pair ∷ []) (past (take count longest))

legal1 : IsLegalFor 1
legal1 = ((refl, omega arith), tt)

legal2 : IsLegalFor 2
legal2 = (record { is_step = omega arith; begins = refl; condition = (refl, refl, λ a needed. absurd (needs_none 0 a needed)) }, legal1)

legal3 : IsLegalFor 3
legal3 = (record { is_step = omega arith; begins = refl; condition = below 1 2 (omega arith) }, legal2)

legal4 : IsLegalFor 4
legal4 = (record { is_step = omega arith; begins = refl; condition = (refl, refl, λ a needed. absurd (needs_none 0 a needed)) }, legal3)

legal5 : IsLegalFor 5
legal5 = (record { is_step = omega arith; begins = refl; condition = tt }, legal4)

legal6 : IsLegalFor 6
legal6 = (record { is_step = omega arith; begins = refl; condition = (refl, refl, λ a needed. absurd (needs_none 1 a needed)) }, legal5)

legal7 : IsLegalFor 7
legal7 = ((refl, λ ended. not_true (ended.stand 1 (omega arith) refl), λ is. cc), legal6)

legal8 : IsLegalFor 8
legal8 = (record { is_step = omega arith; begins = refl; condition = tt }, legal7)

legal9 : IsLegalFor 9
legal9 = ((refl, drained_both_committed), legal8)

legal10 : IsLegalFor 10
legal10 = (refl, legal9)

legal11 : IsLegalFor 11
legal11 = ((refl, drained_both_committed), legal10)

legal12 : IsLegalFor 12
legal12 = ((refl, right both_committed false false cost_both_committed), legal11)

legal13 : IsLegalFor 13
legal13 = (record { is_step = omega arith; begins = refl; condition = (refl, refl, λ b needed. absurd (needs_none b 0 needed)) }, legal12)

legal14 : IsLegalFor 14
legal14 = (record { is_step = omega arith; begins = refl; condition = refl }, legal13)

legal15 : IsLegalFor 15
legal15 = ((refl, drained_first_fixed), legal14)

legal16 : IsLegalFor 16
legal16 = ((refl, right first_fixed true false cost_first_fixed), legal15)

legal17 : IsLegalFor 17
legal17 = (record { is_step = omega arith; begins = refl; condition = (refl, refl, λ b needed. absurd (needs_none b 1 needed)) }, legal16)

legal18 : IsLegalFor 18
legal18 = (record { is_step = omega arith; begins = refl; condition = below 1 3 (omega arith) }, legal17)

legal19 : IsLegalFor 19
legal19 = (record { is_step = omega arith; begins = refl; condition = (refl, refl, λ b needed. absurd (needs_none b 1 needed)) }, legal18)

legal20 : IsLegalFor 20
legal20 = (record { is_step = omega arith; begins = refl; condition = below 2 3 (omega arith) }, legal19)

legal21 : IsLegalFor 21
legal21 = (record { is_step = omega arith; begins = refl; condition = (refl, refl, λ b needed. absurd (needs_none b 1 needed)) }, legal20)

legal22 : IsLegalFor 22
legal22 = (record { is_step = omega arith; begins = refl; condition = refl }, legal21)

legal23 : IsLegalFor 23
legal23 = ((refl, drained_both_fixed), legal22)

legal24 : IsLegalFor 24
legal24 = ((refl, right both_fixed true true cost_both_fixed), legal23)

-- a definition of them is sound
good_name : (letter : ℕ) → IsTrue (is_letter letter) → IsTrue (is_name_byte letter) → IsName (letter ∷ [])
good_name letter p q = record { some = omega arith; short = omega arith; first = p; bytes = All-cons (λ byte. IsTrue (is_name_byte byte)) letter [] q (All-nil _) }

pair_sound : IsSound pair
pair_sound =
    let a : Step = free_step 97 2 1 in
    let b : Step = free_step 98 1 3 in
    record {
      some = omega arith;
      few_steps = omega arith;
      few_needs = omega arith;
      names = (good_name 97 refl refl, All-cons (λ (s : Step). IsName s.name) a (b ∷ []) (good_name 97 refl refl) (All-cons (λ (s : Step). IsName s.name) b [] (good_name 98 refl refl) (All-nil _)));
      distinct = AllPairs-cons (λ (s t : Step). s.name ≢ t.name) a (b ∷ []) (All-cons (λ (t : Step). a.name ≢ t.name) b [] (λ same. let heads : 97 ≡ 98 = ap (λ (l : List ℕ). slice_index l 0) same in omega (arith, heads)) (All-nil _)) (AllPairs-cons (λ (s t : Step). s.name ≢ t.name) b [] (All-nil _) (λ i j d below lt. omega (arith, lt)));
      known = All-nil _;
      single = λ i j d below lt. omega (arith, lt);
      small = All-cons HasSmallPrices a (b ∷ []) (record { run = omega arith; undo = omega arith; skip = omega arith; keep = omega arith }) (All-cons HasSmallPrices b [] (record { run = omega arith; undo = omega arith; skip = omega arith; keep = omega arith }) (All-nil _));
      tries = All-cons HasTriesInRange a (b ∷ []) (record { some = omega arith; few = omega arith; some_undo = omega arith; few_undo = omega arith }) (All-cons HasTriesInRange b [] (record { some = omega arith; few = omega arith; some_undo = omega arith; few_undo = omega arith }) (All-nil _));
      acyclic = record { none = λ s before. none_precedes s s before };
    }

pub bounds_are_reached : BoundsAreReached
unfolding sum_below
bounds_are_reached = record {
  sound = pair_sound;
  legal = legal24;
  adoptions = λ a few. let bad : 2 ≤ 1 = few.adoptions in omega (arith, bad);
  step_a = λ t few. let bad : 7 ≤ 6 = few.each_step 0 (omega arith) in omega (arith, bad);
  step_b = λ t few. let bad : 9 ≤ 8 = few.each_step 1 (omega arith) in omega (arith, bad);
  in_all = λ k few. let bad : 25 ≤ 24 = few.in_all in omega (arith, bad);
}
