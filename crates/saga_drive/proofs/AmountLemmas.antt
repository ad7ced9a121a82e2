-- No number of a right plan is above what all steps of its definition cost, so none has more digits.
use Rattle.std.proofs.Common.{ℕ, zero, suc, ◌≡◌, ◌<◌, ◌≤◌, ◌+◌, ◌^◌, Bool, true, false, List, [], ◌∷◌, Option, Some, None, length, get_or, decimal, ap, sym, subst, refl, arith, inl, inr}
use Rattle.std.specs.Prelude.{slice_get, slice_index, slice_index_or, option_map, unwrap_or, if◌then◌else◌, ◌==◌, nat_lt}
use Rattle.std.proofs.lemmas.Bool.{cases_eq, eq-eqb, ne_eqb}
use Rattle.std.proofs.lemmas.Bool.Decides.{nat_tests}
use Rattle.std.proofs.lemmas.Fmt.{decimal_is_IsNumeral, length-decimal-le}
use Rattle.std.proofs.lemmas.Int.Digits.{digits_value-lt}
use Rattle.std.proofs.lemmas.List.Elements.{Contains-get_or}
use Rattle.std.proofs.lemmas.Option.{slice_get-get_or}
use Rattle.saga_def.specs.Contents.{Contents}
use Rattle.saga_def.specs.Order.{Steps, member}
use Rattle.saga_def.specs.Rules.{AreKnown, IsSmall}
use Rattle.saga_def.specs.Sound.{IsSound}
use Rattle.saga_def.specs.declared.steps.Need.{Need}
use Rattle.saga_def.specs.declared.steps.Price.{Price}
use Rattle.saga_def.specs.declared.steps.Price.TheVariants.{Of, Never}
use Rattle.saga_def.specs.declared.steps.Step.{Step}
use Rattle.saga_order.specs.Rank.{IsRank}
use Rattle.saga_order.specs.Shape.{shape_of}
use Rattle.saga_order.proofs.LawLemmas.{ordered_from_sound, ranks_rise, steps_are_ranked}
use Rattle.saga_case.specs.Flow.{Flow, IsConserved, carried, into_step, out_of_step, sum_below, value_of}
use Rattle.saga_case.specs.Prices.{free_skip, leave_of, plus, stand_of}
use Rattle.saga_case.specs.Right.{IsRight, IsRightPlan, flow_of}
use Rattle.saga_case.specs.Situation.{Situation}
use Rattle.saga_case.specs.Terms.{Terms, cost_of, price_by, price_in, prices_below, terms_of}
use Rattle.saga_case.specs.declared.answers.Answer.{Answer}
use Rattle.saga_case.specs.declared.answers.Answer.TheVariants as answer
use Rattle.saga_case.specs.declared.answers.Plan.{Plan}
use Rattle.saga_case.specs.declared.states.StepState.{StepState}
use Rattle.saga_case.specs.declared.states.StepState.TheVariants.{Waiting, Running, Committed, Void, Failed, Undoing, Undone, Fixed}
use Rattle.saga_case.proofs.SumLemmas.{sum_add, sum_le, sum_one, sum_same, sum_zero}
use Rattle.saga_history.proofs.TurnLemmas.{any_step}
use Rattle.saga_drive.specs.Room.{all_costs, amount_of, costs_in, most_digits, step_costs}
use Rattle.saga_drive.proofs.LengthLemmas.{HasShortNumbers, HaveDigits}
use Rattle.saga_drive.proofs.RoomLemmas.{all_alike}

-- ---- what comes into a set of steps, and what goes out of it

-- the amount where the test holds
when : Bool → ℕ → ℕ
when b x = if b then x else 0

when_zero : (b : Bool) → when b 0 ≡ 0
unfolding when
when_zero true = refl
when_zero false = refl

when_add : (b : Bool) (x y : ℕ) → when b (x + y) ≡ when b x + when b y
unfolding when
when_add true x y = refl
when_add false x y = refl

when_le : (b : Bool) (x : ℕ) → when b x ≤ x
unfolding when
when_le true x = omega arith
when_le false x = omega arith

-- what the needs carry whose end, their step or what they need, is a member: counted by the members
by_end : (end : Need → ℕ) (n : ℕ) (set : Steps) (needs : List Need) (links : List ℕ) → ((k : ℕ) (d : Need) → k < length needs → end (get_or needs k d) < n)
    → sum_below n (λ s. when (set s) (carried (λ (m : Need). end m == s) needs links)) ≡ carried (λ (m : Need). set (end m)) needs links
unfolding carried when
by_end end n set [] links known = sum_zero n _ (λ s lt. when_zero (set s))
by_end end n set (m ∷ needs) [] known = sum_zero n _ (λ s lt. when_zero (set s))
by_end end n set (m ∷ needs) (x ∷ links) known =
    let first : ℕ → ℕ = λ s. when (set s) (when (end m == s) x) in
    let others : ℕ → ℕ = λ s. when (set s) (carried (λ (k : Need). end k == s) needs links) in
    let split : sum_below n (λ s. when (set s) (when (end m == s) x + carried (λ (k : Need). end k == s) needs links)) ≡ sum_below n (λ s. first s + others s) =
    sum_same n _ _ (λ s lt. when_add (set s) _ _) in
    let one : sum_below n first ≡ first (end m) =
    sum_one n (end m) first (known 0 m (omega arith)) (λ s lt apart. rw (ne_eqb (end m) s (λ e. apart (sym e))) (when_zero (set s))) in
    let here : first (end m) ≡ when (set (end m)) x = rw (eq-eqb (end m) (end m) refl) refl in
    let rest : sum_below n others ≡ carried (λ (k : Need). set (end k)) needs links =
    by_end end n set needs links (λ k d lt. known (suc k) d (omega (arith, lt))) in
    omega (arith, split, sum_add n first others, one, here, rest)

even_at : (b : Bool) (leave stand into out : ℕ) → leave + into ≡ stand + out → when b leave + when b into ≡ when b stand + when b out
unfolding when
even_at true leave stand into out even = even
even_at false leave stand into out even = refl

-- of the steps of a set together: what the source gives them and what comes in is what they give the sink and what goes out
across : (t : Terms) (f : Flow) (set : Steps) → AreKnown t.needs t.count → IsConserved t f
    → sum_below t.count (λ s. when (set s) (slice_index f.leave s)) + carried (λ (m : Need). set m.on) t.needs f.links
    ≡ sum_below t.count (λ s. when (set s) (slice_index f.stand s)) + carried (λ (m : Need). set m.step) t.needs f.links
across t f set known conserved =
    let leave : ℕ → ℕ = λ s. when (set s) (slice_index f.leave s) in
    let stand : ℕ → ℕ = λ s. when (set s) (slice_index f.stand s) in
    let ins : ℕ → ℕ = λ s. when (set s) (into_step t f s) in
    let outs : ℕ → ℕ = λ s. when (set s) (out_of_step t f s) in
    let even : sum_below t.count (λ s. leave s + ins s) ≡ sum_below t.count (λ s. stand s + outs s) =
    sum_same t.count _ _ (λ s lt. even_at (set s) (slice_index f.leave s) (slice_index f.stand s) (into_step t f s) (out_of_step t f s) (conserved.at_step s lt)) in
    let comes_in : sum_below t.count ins ≡ carried (λ (m : Need). set m.on) t.needs f.links =
    by_end (λ (m : Need). m.on) t.count set t.needs f.links (λ k d lt. (known k d lt).1) in
    let goes_out : sum_below t.count outs ≡ carried (λ (m : Need). set m.step) t.needs f.links =
    by_end (λ (m : Need). m.step) t.count set t.needs f.links (λ k d lt. (known k d lt).0) in
    omega (arith, even, sum_add t.count leave ins, sum_add t.count stand outs, comes_in, goes_out)

-- ---- no amount is above the value

one_of : (n s : ℕ) (f : ℕ → ℕ) → s < n → f s ≤ sum_below n f
unfolding sum_below
one_of zero s f lt = absurd (omega (arith, lt))
one_of (suc n) s f lt = elim (cases_eq s n) [
  | inl last ↦ omega (arith, ap f last)
  | inr before ↦ omega (arith, one_of n s f (omega (arith, lt, before)))
]

-- what flows to the sink is what flows from the source
sink_is_source : (t : Terms) (f : Flow) → AreKnown t.needs t.count → IsConserved t f → sum_below t.count (slice_index f.stand) ≡ value_of t f
unfolding when
sink_is_source t f known conserved = omega (arith, across t f (λ s. true) known conserved)

first_le : (x : ℕ) (a b : Bool) → (a ≡ true → b ≡ true) → (if a then x else 0) ≤ (if b then x else 0)
first_le x false b imp = omega arith
first_le x true b imp = rw (imp refl) (omega arith)

carried_le : (p q : Need → Bool) (needs : List Need) (links : List ℕ) → ((k : ℕ) (d : Need) → k < length needs → p (get_or needs k d) ≡ true → q (get_or needs k d) ≡ true)
    → carried p needs links ≤ carried q needs links
unfolding carried
carried_le p q [] links implies = omega arith
carried_le p q (m ∷ needs) [] implies = omega arith
carried_le p q (m ∷ needs) (x ∷ links) implies =
    let rest : carried p needs links ≤ carried q needs links = carried_le p q needs links (λ k d lt. implies (suc k) d (omega (arith, lt))) in
    let here = first_le x (p m) (q m) (λ e. implies 0 m (omega arith) e) in
    omega (arith, rest, here)

-- a need that passes the second test alone carries no more than the second carries beside the first
carried_beside : (p q : Need → Bool) (needs : List Need) (links : List ℕ) (k : ℕ) (d : Need) → k < length needs
    → ((j : ℕ) (d : Need) → j < length needs → p (get_or needs j d) ≡ true → q (get_or needs j d) ≡ true)
    → p (get_or needs k d) ≡ false → q (get_or needs k d) ≡ true → carried p needs links + get_or links k 0 ≤ carried q needs links
unfolding carried
carried_beside p q [] links k d lt implies out is = absurd (omega (arith, lt))
carried_beside p q (m ∷ needs) [] k d lt implies out is = omega arith
carried_beside p q (m ∷ needs) (x ∷ links) zero d lt implies out is =
    let rest = carried_le p q needs links (λ k d lt. implies (suc k) d (omega (arith, lt))) in
    rw (out, is) (omega (arith, rest))
carried_beside p q (m ∷ needs) (x ∷ links) (suc k) d lt implies out is =
    let rest = carried_beside p q needs links k d (omega (arith, lt)) (λ j d lt. implies (suc j) d (omega (arith, lt))) out is in
    let here = first_le x (p m) (q m) (λ e. implies 0 m (omega arith) e) in
    omega (arith, rest, here)

-- each need goes down a rank
abbrev GoesDown : (ℕ → ℕ) → List Need → Type 0
GoesDown rank needs = (k : ℕ) (d : Need) → k < length needs → rank (get_or needs k d).on < rank (get_or needs k d).step

above : (a b c : ℕ) → b < c → nat_lt a b ≡ true → nat_lt a c ≡ true
above a b c lt is = grind (arith, nat_tests)

-- what a need carries comes from the steps above that which is needed
link_within : (t : Terms) (f : Flow) (rank : ℕ → ℕ) (k : ℕ) (d : Need) → AreKnown t.needs t.count → IsConserved t f → GoesDown rank t.needs → k < length t.needs
    → get_or f.links k 0 ≤ value_of t f
link_within t f rank k d known conserved down lt =
    let need : Need = get_or t.needs k d in
    let set : Steps = λ s. nat_lt (rank need.on) (rank s) in
    let beside = carried_beside (λ (m : Need). set m.on) (λ (m : Need). set m.step) t.needs f.links k d lt
    (λ j e within is. above (rank need.on) (rank (get_or t.needs j e).on) (rank (get_or t.needs j e).step) (down j e within) is)
    (not_below (rank need.on)) (goes_below (rank need.on) (rank need.step) (down k d lt)) in
    let of_set = sum_le t.count (λ s. when (set s) (slice_index f.leave s)) (slice_index f.leave) (λ s lt. when_le (set s) (slice_index f.leave s)) in
    omega (arith, beside, of_set, across t f set known conserved)
  where
    not_below : (n : ℕ) → nat_lt n n ≡ false
    not_below n = grind (arith, nat_tests)

    goes_below : (m n : ℕ) → m < n → nat_lt m n ≡ true
    goes_below m n lt = grind (arith, nat_tests)

-- ---- the cost

of_same : (a b : ℕ) → Of a ≡ Of b → a ≡ b
of_same a b e = cc

of_never : (a : ℕ) → Never ≡ Of a → ⊥
of_never a e = cc

-- prices that are numbers within some bounds add up to a number within the bounds' sum
prices_within : (n : ℕ) (price : ℕ → Price) (most : ℕ → ℕ) (cost : ℕ) → ((s c : ℕ) → price s ≡ Of c → c ≤ most s) → prices_below n price ≡ Of cost → cost ≤ sum_below n most
unfolding sum_below prices_below
prices_within zero price most cost each is = omega (arith, of_same 0 cost is)
prices_within (suc n) price most cost each is = both (prices_below n price) (price n) (λ c e. prices_within n price most c each e) (λ c e. each n c e) is
  where
    both : (p q : Price) → ((c : ℕ) → p ≡ Of c → c ≤ sum_below n most) → ((c : ℕ) → q ≡ Of c → c ≤ most n) → plus p q ≡ Of cost → cost ≤ sum_below n most + most n
    both (Of a) (Of b) below here is = omega (arith, of_same (a + b) cost is, below a refl, here b refl)
    both (Of a) Never below here is = absurd (of_never cost is)
    both Never q below here is = absurd (of_never cost is)

plus_is : (p q : Price) (c : ℕ) → plus p q ≡ Of c → c ≡ amount_of p + amount_of q
plus_is (Of a) (Of b) c is = omega (arith, of_same (a + b) c is)
plus_is (Of a) Never c is = absurd (of_never c is)
plus_is Never q c is = absurd (of_never c is)

just : (p : Price) (c : ℕ) → p ≡ Of c → c ≡ amount_of p
just (Of a) c is = omega (arith, of_same a c is)
just Never c is = absurd (of_never c is)

skipped : (p : Price) (c : ℕ) → free_skip p ≡ Of c → c ≡ 0
skipped (Of a) c is = omega (arith, of_same 0 c is)
skipped Never c is = absurd (of_never c is)

stand_within : (ab : Bool) (x : StepState) (step : Step) (c : ℕ) → stand_of ab x step ≡ Of c → c ≤ step_costs step
stand_within false Waiting step c is = omega (arith, plus_is step.run step.keep c is)
stand_within true Waiting step c is = absurd (of_never c is)
stand_within ab Running step c is = absurd (of_never c is)
stand_within ab Committed step c is = omega (arith, just step.keep c is)
stand_within ab Void step c is = omega (arith, of_same 0 c is)
stand_within ab Failed step c is = absurd (of_never c is)
stand_within ab Undoing step c is = absurd (of_never c is)
stand_within ab Undone step c is = absurd (of_never c is)
stand_within ab Fixed step c is = omega (arith, just step.keep c is)

leave_within : (x : StepState) (step : Step) (c : ℕ) → leave_of x step ≡ Of c → c ≤ step_costs step
leave_within Waiting step c is = omega (arith, just step.skip c is)
leave_within Running step c is = absurd (of_never c is)
leave_within Committed step c is = omega (arith, plus_is step.undo step.skip c is)
leave_within Void step c is = omega (arith, skipped step.skip c is)
leave_within Failed step c is = omega (arith, just step.skip c is)
leave_within Undoing step c is = absurd (of_never c is)
leave_within Undone step c is = omega (arith, just step.skip c is)
leave_within Fixed step c is = absurd (of_never c is)

price_within : (price : StepState → Step → Price) (c : Situation) (i cost : ℕ) → ((x : StepState) (step : Step) (n : ℕ) → price x step ≡ Of n → n ≤ step_costs step)
    → price_by price c i ≡ Of cost → cost ≤ costs_in (slice_get c.definition.steps i)
price_within price c i cost each is = by (slice_get c.definition.steps i) is
  where
    by : (o : Option Step) → unwrap_or (option_map (price (slice_index_or c.states i Waiting)) o) Never ≡ Of cost → cost ≤ costs_in o
    by None is = absurd (of_never cost is)
    by (Some step) is = each (slice_index_or c.states i Waiting) step cost is

-- no set of steps costs more than all costs together
cost_within : (c : Situation) (set : Steps) (cost : ℕ) → cost_of (terms_of c) set ≡ Of cost → cost ≤ all_costs c.definition
cost_within c set cost is =
    prices_within (length c.definition.steps) (price_in (terms_of c) set) (λ s. costs_in (slice_get c.definition.steps s)) cost (λ s n one. either (set s) s n one) is
  where
    either : (b : Bool) (s n : ℕ) → (if b then price_by (stand_of c.aborted) c s else price_by leave_of c s) ≡ Of n → n ≤ costs_in (slice_get c.definition.steps s)
    either true s n is = price_within (stand_of c.aborted) c s n (stand_within c.aborted) is
    either false s n is = price_within leave_of c s n leave_within is

-- ---- ranks

is_below : (s n : ℕ) → nat_lt s n ≡ true → s < n
is_below s n is = grind (arith, nat_tests)

rank_by : (d : Contents) → IsSound d → (s : ℕ) (b : Bool) → nat_lt s (length d.steps) ≡ b → ℕ
rank_by d sound s true is = (steps_are_ranked (shape_of d) (ordered_from_sound d sound) s (is_below s (length d.steps) is)).0
rank_by d sound s false is = 0

rank_of : (d : Contents) → IsSound d → ℕ → ℕ
rank_of d sound s = rank_by d sound s (nat_lt s (length d.steps)) refl

is_rank : (d : Contents) (sound : IsSound d) (s : ℕ) → s < length d.steps → IsRank d.needs s (rank_of d sound s)
unfolding rank_of rank_by
is_rank d sound s lt = by (nat_lt s (length d.steps)) refl
  where
    by : (b : Bool) (is : nat_lt s (length d.steps) ≡ b) → IsRank d.needs s (rank_by d sound s b is)
    by true is = (steps_are_ranked (shape_of d) (ordered_from_sound d sound) s (is_below s (length d.steps) is)).1
    by false is = absurd (let no : length d.steps ≤ s = grind (arith, nat_tests) in omega (arith, no, lt))

goes_down : (d : Contents) (sound : IsSound d) → GoesDown (rank_of d sound) d.needs
goes_down d sound k e lt =
    let need : Need = get_or d.needs k e in
    let known = sound.known k e lt in
    ranks_rise (shape_of d) need.on need.step (rank_of d sound need.on) (rank_of d sound need.step) (Contains-get_or d.needs k e lt)
    (is_rank d sound need.on known.1) (is_rank d sound need.step known.0)

-- ---- the numbers of a right plan

record AreBelow (most : ℕ) (plan : Plan) : Type 0 where
  cost : plan.cost ≤ most
  leave : (k : ℕ) → k < length plan.leave → get_or plan.leave k 0 ≤ most
  stand : (k : ℕ) → k < length plan.stand → get_or plan.stand k 0 ≤ most
  links : (k : ℕ) → k < length plan.links → get_or plan.links k 0 ≤ most

numbers_below : (c : Situation) (plan : Plan) → IsSound c.definition → IsRightPlan (terms_of c) plan → AreBelow (all_costs c.definition) plan
numbers_below c plan sound right = record {
  cost = cost;
  leave = λ k lt. omega (arith, one_of n k (slice_index plan.leave) (omega (arith, lt, right.shape.leave)), right.valued, cost);
  stand = λ k lt. omega (arith, one_of n k (slice_index plan.stand) (omega (arith, lt, right.shape.stand)), sink_is_source t f sound.known right.conserved, right.valued, cost);
  links = λ k lt. omega (arith, link_within t f (rank_of c.definition sound) k no_need sound.known right.conserved (goes_down c.definition sound) (omega (arith, lt, right.shape.links)), right.valued, cost);
}
  where
    t : Terms
    t = terms_of c

    f : Flow
    f = flow_of plan

    n : ℕ
    n = length c.definition.steps

    no_need : Need
    no_need = record { step = 0; on = 0 }

    cost : plan.cost ≤ all_costs c.definition
    cost = cost_within c (member plan.kept) plan.cost right.priced

-- ---- digits

-- a number has as many digits as a larger one at most
fewer_digits : (a b : ℕ) → a ≤ b → b < 2 ^ 64 → length (decimal a) ≤ length (decimal b)
fewer_digits a b le small =
    let is = decimal_is_IsNumeral b small in
    let below : b < 10 ^ length (decimal b) = subst (λ (n : ℕ). n < 10 ^ length (decimal b)) is.1 (digits_value-lt 10 (decimal b) is.0.1) in
    length-decimal-le (length (decimal b)) a is.0.0 (through a b (10 ^ length (decimal b)) le below) (omega (arith, le, small))
  where
    through : (a b c : ℕ) → a ≤ b → b < c → a < c
    through a b c le lt = omega (arith, le, lt)

amount_small : (p : Price) → IsSmall p → amount_of p ≤ 1000000000
amount_small (Of a) small = omega (arith, small)
amount_small Never small = omega arith

costs_small : (d : Contents) → IsSound d → all_costs d ≤ 4096000000000
costs_small d sound =
    let all = sum_le (length d.steps) (λ s. costs_in (slice_get d.steps s)) (λ s. 4000000000) each in
    omega (arith, all, all_alike (length d.steps) 4000000000, sound.few_steps)
  where
    each : (s : ℕ) → s < length d.steps → costs_in (slice_get d.steps s) ≤ 4000000000
    each s lt =
        let small = sound.small s any_step lt in
        rw (slice_get-get_or d.steps s any_step lt)
        (omega (arith, amount_small _ small.run, amount_small _ small.undo, amount_small _ small.skip, amount_small _ small.keep))

pub few_digits : (d : Contents) → IsSound d → most_digits d ≤ 13
few_digits d sound =
    let small = costs_small d sound in
    length-decimal-le 13 (all_costs d) (omega arith) (omega (arith, small)) (omega (arith, small))

have_digits : (most : ℕ) (ns : List ℕ) → most < 2 ^ 64 → ((k : ℕ) → k < length ns → get_or ns k 0 ≤ most) → HaveDigits (length (decimal most)) ns
have_digits most [] small below = tt
have_digits most (n ∷ ns) small below =
    (fewer_digits n most (below 0 (omega arith)) small, have_digits most ns small (λ k lt. below (suc k) (omega (arith, lt))))

pub numbers_within_costs : (c : Situation) (a : Answer) → IsSound c.definition → IsRight (terms_of c) a → HasShortNumbers (most_digits c.definition) a
numbers_within_costs c (answer.Plan plan) sound right =
    let small : all_costs c.definition < 2 ^ 64 = omega (arith, costs_small c.definition sound) in
    let below = numbers_below c plan sound right in
    record {
      cost = fewer_digits plan.cost (all_costs c.definition) below.cost small;
      leave = have_digits (all_costs c.definition) plan.leave small below.leave;
      stand = have_digits (all_costs c.definition) plan.stand small below.stand;
      links = have_digits (all_costs c.definition) plan.links small below.links;
    }
numbers_within_costs c (answer.Blocked chain) sound right = tt
