-- What a change makes of a row's tables, and what the tables say.
use Rattle.std.proofs.Common.{ℕ, ◌≡◌, ◌<◌, ◌≤◌, ◌+◌, ◌*◌, ◌∙◌, inl, inr, List, [], ◌∷◌, length, take, replicate, get_or, set, ap, sym, subst, refl, arith, suc, zero}
use Rattle.std.specs.Prelude.{◌↔◌, IsTrue, Bool, true, false, not, ◌==◌, ◌&&◌, All, Contains}
use Rattle.std.specs.List.{count_by, sum_by}
use Rattle.std.proofs.lemmas.Bool.{cases_Bool, cases_eq, cases_lt, eq-eqb, eqb-true, false≢true, ne_eqb, not-false, not-true}
use Rattle.std.proofs.lemmas.List.{length-set, get_or-set_same, get_or-set_other, get_or-replicate, get_or_past, length-replicate}
use Rattle.std.proofs.lemmas.List.Sums.{sum_by-cons, sum_by_more_le, sum_by-set, sum_by-le, get_or-le-sum_by, count_by-le-length}
use Rattle.std.proofs.lemmas.List.Elements.{All-from_get_or, Contains-get_or}
use Rattle.saga_def.specs.Contents.{Contents}
use Rattle.saga_def.specs.Sound.{IsSound}
use Rattle.saga_def.specs.Order.{NeedsDirectly}
use Rattle.saga_def.specs.Neighbours.{needs_of, needed_by}
use Rattle.saga_def.specs.declared.steps.Need.{Need}
use Rattle.saga_def.proofs.AdjacencyLemmas.{sum_of, sum_on, occurs_both, needs_of_below, needed_by_below}
use Rattle.saga_case.specs.Flow.{sum_below}
use Rattle.saga_case.proofs.SumLemmas.{sum_none, sum_more, sum_same, sum_zero}
use Rattle.saga_case.specs.declared.states.StepState.{StepState}
use Rattle.saga_case.specs.declared.states.StepState.TheVariants.{Waiting, Committed, Void}
use Rattle.saga_case.specs.States.{commits}
use Rattle.saga_history.specs.declared.turns.Turn.{Turn}
use Rattle.saga_history.specs.declared.turns.Turn.TheVariants.{Going, Draining}
use Rattle.saga_history.specs.States.{is_standing, is_off, is_busy}
use Rattle.saga_rows.specs.declared.tasks.RowTask.{RowTask}
use Rattle.saga_rows.specs.declared.tasks.RowTask.TheVariants.{Run, Undo, Plan}
use Rattle.saga_rows.specs.Row.{Row, MayRun, MayUndo, MayPlan, RowAllows, RowAllowsNone, task_step, state_at, mark_at, is_finished, one_if}
use Rattle.saga_rows.specs.Tables.{IsRow, unmet_of, held_of, is_ready, ready_at, unfinished_at, unfinished_in, occurs, AreShifted, AreRefreshed}

one_yes : (a b : ℕ) → a ≡ b → one_if (a == b) ≡ 1
one_yes a b e = ap one_if (eq-eqb a b e)

one_no : (a b : ℕ) → (a ≡ b → ⊥) → one_if (a == b) ≡ 0
one_no a b ne = ap one_if (ne_eqb a b ne)

-- one more stands in the list than in what lies before it
pub occurs_more : (steps : List ℕ) (i : ℕ) → i < length steps → occurs (get_or steps i 0) (take i steps) + 1 ≤ occurs (get_or steps i 0) steps
occurs_more steps i lt =
    let b : ℕ = get_or steps i 0 in
    omega (arith, sum_by_more_le (λ x. one_if (x == b)) steps i 0 lt, one_yes b b refl)

occurs_cons_yes : (s a : ℕ) (xs : List ℕ) → a ≡ s → occurs s (a ∷ xs) ≡ occurs s xs + 1
occurs_cons_yes s a xs e = omega (arith, sum_by-cons (λ x. one_if (x == s)) a xs, one_yes a s e)

occurs_cons_no : (s a : ℕ) (xs : List ℕ) → (a ≡ s → ⊥) → occurs s (a ∷ xs) ≡ occurs s xs
occurs_cons_no s a xs ne = omega (arith, sum_by-cons (λ x. one_if (x == s)) a xs, one_no a s ne)

-- a count over states, where one of them is set
pub count_shift : (p : StepState → Bool) (states : List StepState) (s : ℕ) (x : StepState) (xs : List ℕ) → s < length states → count_by (λ a. p (state_at (set states s x) a)) xs + one_if (p (state_at states s)) * occurs s xs ≡ count_by (λ a. p (state_at states a)) xs + one_if (p x) * occurs s xs
count_shift p states s x [] lt = omega arith
count_shift p states s x (a ∷ xs) lt =
    let f : ℕ → ℕ = λ a. one_if (p (state_at (set states s x) a)) in
    let g : ℕ → ℕ = λ a. one_if (p (state_at states a)) in
    let later = count_shift p states s x xs lt in
    elim (cases_eq a s) [
      | inl e ↦
          let now : f a ≡ one_if (p x) = ap (λ y. one_if (p y)) (ap (λ k. state_at (set states s x) k) e ∙ get_or-set_same states s x Waiting lt) in
          let was : g a ≡ one_if (p (state_at states s)) = ap g e in
          rw (occurs_cons_yes s a xs e) (omega (arith, sum_by-cons f a xs, sum_by-cons g a xs, now, was, later))
      | inr ne ↦
          let same : f a ≡ g a = ap (λ y. one_if (p y)) (get_or-set_other states s a x Waiting ne) in
          rw (occurs_cons_no s a xs ne) (omega (arith, sum_by-cons f a xs, sum_by-cons g a xs, same, later))
    ]

-- where one counts, it is counted as often as it stands in the list
pub counted : (p : StepState → Bool) (states : List StepState) (s : ℕ) (xs : List ℕ) → p (state_at states s) ≡ true → occurs s xs ≤ count_by (λ a. p (state_at states a)) xs
counted p states s [] said = omega arith
counted p states s (a ∷ xs) said =
    let g : ℕ → ℕ = λ a. one_if (p (state_at states a)) in
    elim (cases_eq a s) [
      | inl e ↦ let one : g a ≡ 1 = ap g e ∙ ap one_if said in omega (arith, sum_by-cons g a xs, one, occurs_cons_yes s a xs e, counted p states s xs said)
      | inr ne ↦ omega (arith, sum_by-cons g a xs, occurs_cons_no s a xs ne, counted p states s xs said)
    ]

-- few neighbours
length_sum : (xs : List ℕ) → length xs ≡ sum_by (λ _. 1) xs
length_sum [] = refl
length_sum (x ∷ xs) = omega (arith, sum_by-cons (λ _. 1) x xs, length_sum xs)

one_most : (b : Bool) → one_if b * 1 ≤ 1
one_most true = omega arith
one_most false = omega arith

few_needs : (key : Need → ℕ) (needs : List Need) (s : ℕ) → sum_by (λ (n : Need). one_if (key n == s) * 1) needs ≤ length needs
few_needs key needs s = omega (arith, sum_by-le (λ (n : Need). one_if (key n == s) * 1) 1 needs (All-from_get_or (λ (n : Need). one_if (key n == s) * 1 ≤ 1) needs (record { step = 0; on = 0 }) (λ i lt. one_most (key (get_or needs i (record { step = 0; on = 0 })) == s))))

pub few_of : (c : Contents) (s : ℕ) → IsSound c → length (needs_of c s) ≤ 8192
few_of c s sound = omega (arith, length_sum (needs_of c s), sum_of (λ _. 1) c s sound.known, few_needs (λ (n : Need). n.step) c.needs s, sound.few_needs)

pub few_on : (c : Contents) (s : ℕ) → IsSound c → length (needed_by c s) ≤ 8192
few_on c s sound = omega (arith, length_sum (needed_by c s), sum_on (λ _. 1) c s sound.known, few_needs (λ (n : Need). n.on) c.needs s, sound.few_needs)

-- a sum of which one term changes
sum_change : (n : ℕ) (f g : ℕ → ℕ) (s : ℕ) → s < n → ((k : ℕ) → k < n → (k ≡ s → ⊥) → f k ≡ g k) → sum_below n f + g s ≡ sum_below n g + f s
sum_change zero f g s lt same = absurd (omega (arith, lt))
sum_change (suc n) f g s lt same =
    let e : n + 1 ≡ suc n = omega arith in
    subst (λ m. sum_below m f + g s ≡ sum_below m g + f s) e (rw (sum_more n f, sum_more n g) (elim (cases_eq n s) [
      | inl here ↦ rw here (omega (arith, sum_alike s f g (λ k below. same k (omega (arith, here)) (λ is. absurd (omega (arith, is, below))))))
      | inr apart ↦ omega (arith, sum_change n f g s (omega arith) (λ k below ne. same k (omega arith) ne), same n (omega arith) apart)
    ]))
  where
    sum_alike : (m : ℕ) (f g : ℕ → ℕ) → ((k : ℕ) → k < m → f k ≡ g k) → sum_below m f ≡ sum_below m g
    sum_alike m f g alike = sum_same m f g alike

sum_has : (n : ℕ) (f : ℕ → ℕ) (s : ℕ) → s < n → f s ≤ sum_below n f
sum_has zero f s lt = absurd (omega (arith, lt))
sum_has (suc n) f s lt =
    let e : n + 1 ≡ suc n = omega arith in
    subst (λ m. f s ≤ sum_below m f) e (rw (sum_more n f) (elim (cases_eq s n) [
      | inl here ↦ rw here (omega arith)
      | inr apart ↦ omega (arith, sum_has n f s (omega arith))
    ]))

sum_few : (n : ℕ) (f : ℕ → ℕ) → ((k : ℕ) → f k ≤ 1) → sum_below n f ≤ n
sum_few zero f few = omega (arith, sum_none f)
sum_few (suc n) f few =
    let e : n + 1 ≡ suc n = omega arith in
    subst (λ m. sum_below m f ≤ m) e (rw (sum_more n f) (omega (arith, sum_few n f few, few n)))

pub one_if_few : (b : Bool) → one_if b ≤ 1
one_if_few true = omega arith
one_if_few false = omega arith

pub unfinished_one : (states : List StepState) (goal : List Bool) (s : ℕ) → unfinished_at states goal s ≤ 1
unfinished_one states goal s = one_if_few (not (is_finished (mark_at goal s) (state_at states s)))

unfinished_few : (states : List StepState) (goal : List Bool) (n : ℕ) → sum_below n (unfinished_at states goal) ≤ n
unfinished_few states goal n = sum_few n (unfinished_at states goal) (unfinished_one states goal)

-- a step enters a state
module _ (c : Contents) (states : List StepState) (goal : List Bool) (unmet held : List ℕ) (busy unfinished : ℕ) (ready : List Bool) (old : IsRow c states goal unmet held busy unfinished ready) (s : ℕ) (x : StepState) (lt : s < length c.steps) where
  within : s < length states
  within = omega (arith, lt, old.states_sized)

  pub unmet_known : All (λ (b : ℕ). b < length unmet) (needed_by c s)
  unmet_known = rw old.counted.unmet_sized (needed_by_below c s old.sound.known)

  pub held_known : All (λ (b : ℕ). b < length held) (needs_of c s)
  held_known = rw old.counted.held_sized (needs_of_below c s old.sound.known)

  pub unmet_enough : not (is_standing (state_at states s)) ≡ true → (b : ℕ) → b < length unmet → occurs b (needed_by c s) ≤ get_or unmet b 0
  unmet_enough said b below =
      omega (arith, old.counted.unmet_is b (omega (arith, below, old.counted.unmet_sized)), counted (λ y. not (is_standing y)) states s (needs_of c b) said, occurs_both c b s old.sound.known)

  pub held_enough : not (is_off (state_at states s)) ≡ true → (b : ℕ) → b < length held → occurs b (needs_of c s) ≤ get_or held b 0
  held_enough said b below =
      omega (arith, old.counted.held_is b (omega (arith, below, old.counted.held_sized)), counted (λ y. not (is_off y)) states s (needed_by c b) said, occurs_both c s b old.sound.known)

  pub unmet_room : (b : ℕ) → b < length unmet → get_or unmet b 0 + occurs b (needed_by c s) ≤ 65535
  unmet_room b below =
      omega (arith, old.counted.unmet_is b (omega (arith, below, old.counted.unmet_sized)), count_by-le-length (λ a. not (is_standing (state_at states a))) (needs_of c b), few_of c b old.sound, count_by-le-length (λ a. a == b) (needed_by c s), few_on c s old.sound)

  pub held_room : (b : ℕ) → b < length held → get_or held b 0 + occurs b (needs_of c s) ≤ 65535
  held_room b below =
      omega (arith, old.counted.held_is b (omega (arith, below, old.counted.held_sized)), count_by-le-length (λ a. not (is_off (state_at states a))) (needed_by c b), few_on c b old.sound, count_by-le-length (λ a. a == b) (needs_of c s), few_of c s old.sound)

  pub busy_enough : is_busy (state_at states s) ≡ true → 1 ≤ busy
  busy_enough said =
      let one : one_if (is_busy (state_at states s)) ≡ 1 = ap one_if said in
      omega (arith, old.counted.busy_is, get_or-le-sum_by (λ y. one_if (is_busy y)) states s Waiting within, one)

  pub busy_room : busy ≤ 65535
  busy_room = omega (arith, old.counted.busy_is, count_by-le-length is_busy states, old.states_sized, old.sound.few_steps)

  pub unfinished_enough : not (is_finished (mark_at goal s) (state_at states s)) ≡ true → 1 ≤ unfinished
  unfinished_enough said =
      let one : unfinished_at states goal s ≡ 1 = ap one_if said in
      omega (arith, old.counted.unfinished_is, sum_has (length c.steps) (unfinished_at states goal) s lt, one)

  pub unfinished_room : unfinished ≤ 65535
  unfinished_room = omega (arith, old.counted.unfinished_is, unfinished_few states goal (length c.steps), old.sound.few_steps)

  module _ (unmet' held' : List ℕ) (busy' unfinished' : ℕ) (ready1 ready2 ready3 : List Bool) (shifted : AreShifted (needed_by c s) (not (is_standing (state_at states s))) (not (is_standing x)) unmet unmet') (sized : length unmet' ≡ length unmet) (shifted' : AreShifted (needs_of c s) (not (is_off (state_at states s))) (not (is_off x)) held held') (sized' : length held' ≡ length held) (moved : busy' + one_if (is_busy (state_at states s)) ≡ busy + one_if (is_busy x)) (finished : unfinished' + one_if (not (is_finished (mark_at goal s) (state_at states s))) ≡ unfinished + one_if (not (is_finished (mark_at goal s) x))) (first : AreRefreshed (ready_at (set states s x) goal unmet' held') (s ∷ []) ready ready1) (second : AreRefreshed (ready_at (set states s x) goal unmet' held') (needed_by c s) ready1 ready2) (third : AreRefreshed (ready_at (set states s x) goal unmet' held') (needs_of c s) ready2 ready3) where
    unmet_now : (b : ℕ) → b < length c.steps → get_or unmet' b 0 ≡ unmet_of c (set states s x) b
    unmet_now b below =
        let same = occurs_both c b s old.sound.known in
        let turned = rw same at (count_shift (λ y. not (is_standing y)) states s x (needs_of c b) within) in
        omega (arith, shifted b (omega (arith, below, old.counted.unmet_sized)), turned, old.counted.unmet_is b below)

    held_now : (b : ℕ) → b < length c.steps → get_or held' b 0 ≡ held_of c (set states s x) b
    held_now b below =
        let same = occurs_both c s b old.sound.known in
        let turned = rw (← same) at (count_shift (λ y. not (is_off y)) states s x (needed_by c b) within) in
        omega (arith, shifted' b (omega (arith, below, old.counted.held_sized)), turned, old.counted.held_is b below)

    untouched : (t : ℕ) → t < length c.steps → occurs t (s ∷ []) ≡ 0 → occurs t (needed_by c s) ≡ 0 → occurs t (needs_of c s) ≡ 0 → ready_at states goal unmet held t ≡ ready_at (set states s x) goal unmet' held' t
    untouched t below a b d =
        let apart : t ≡ s → ⊥ = λ e. absurd (omega (arith, a, occurs_cons_yes t s [] (sym e))) in
        let state : state_at (set states s x) t ≡ state_at states t = get_or-set_other states s t x Waiting apart in
        let u : get_or unmet' t 0 ≡ get_or unmet t 0 = let h = rw b at (shifted t (omega (arith, below, old.counted.unmet_sized))) in omega (arith, h) in
        let v : get_or held' t 0 ≡ get_or held t 0 = let h = rw d at (shifted' t (omega (arith, below, old.counted.held_sized))) in omega (arith, h) in
        rw (state, u, v) refl

    ready_now : (t : ℕ) → t < length c.steps → get_or ready3 t false ≡ ready_at (set states s x) goal unmet' held' t
    ready_now t below =
        let r1 = first.either t (omega (arith, below, old.ready_sized)) in
        let r2 = second.either t (omega (arith, below, old.ready_sized, first.sized)) in
        let r3 = third.either t (omega (arith, below, old.ready_sized, first.sized, second.sized)) in
        elim r3 [
          | inl e ↦ e
          | inr (d, same3) ↦ same3 ∙ elim r2 [
            | inl e ↦ e
            | inr (b, same2) ↦ same2 ∙ elim r1 [
              | inl e ↦ e
              | inr (a, same1) ↦ same1 ∙ old.ready_is t below ∙ untouched t below a b d
            ]
          ]
        ]

    unfinished_now : unfinished' ≡ unfinished_in c (set states s x) goal
    unfinished_now =
        let at_s : state_at (set states s x) s ≡ x = get_or-set_same states s x Waiting within in
        let now : unfinished_at (set states s x) goal s ≡ one_if (not (is_finished (mark_at goal s) x)) = ap (λ y. one_if (not (is_finished (mark_at goal s) y))) at_s in
        let change = sum_change (length c.steps) (unfinished_at (set states s x) goal) (unfinished_at states goal) s lt
        (λ k below ne. ap (λ y. one_if (not (is_finished (mark_at goal k) y))) (get_or-set_other states s k x Waiting ne)) in
        omega (arith, finished, old.counted.unfinished_is, change, now)

    pub entered : IsRow c (set states s x) goal unmet' held' busy' unfinished' ready3
    entered = record {
      sound = old.sound;
      states_sized = length-set states s x ∙ old.states_sized;
      goal_sized = old.goal_sized;
      ready_sized = third.sized ∙ second.sized ∙ first.sized ∙ old.ready_sized;
      counted = record {
        unmet_sized = sized ∙ old.counted.unmet_sized;
        held_sized = sized' ∙ old.counted.held_sized;
        unmet_is = unmet_now;
        held_is = held_now;
        busy_is = omega (arith, moved, old.counted.busy_is, sum_by-set (λ y. one_if (is_busy y)) states s x Waiting within);
        unfinished_is = unfinished_now;
      };
      ready_is = ready_now;
    }

-- where no need of a step fails a test, none is counted, and the other way round
one_zero : (b : Bool) → one_if b ≡ 0 → b ≡ false
one_zero true e = absurd (omega (arith, e))
one_zero false e = refl

and_both : (a b : Bool) → (a && b) ≡ true → (a ≡ true) × (b ≡ true)
and_both true b e = (refl, e)
and_both false b e = absurd (false≢true e)

all_pass : (q : ℕ → Bool) (key other : Need → ℕ) (needs : List Need) (s : ℕ) → ((n : Need) → Contains needs n → key n ≡ s → q (other n) ≡ true) → sum_by (λ (n : Need). one_if (key n == s) * one_if (not (q (other n)))) needs ≡ 0
all_pass q key other needs s all =
    let d : Need = record { step = 0; on = 0 } in
    let f : Need → ℕ = λ (n : Need). one_if (key n == s) * one_if (not (q (other n))) in
    omega (arith, sum_by-le f 0 needs (All-from_get_or (λ (n : Need). f n ≤ 0) needs d (λ i lt. each (get_or needs i d) (all (get_or needs i d) (Contains-get_or needs i d lt)))))
  where
    each : (n : Need) → (key n ≡ s → q (other n) ≡ true) → one_if (key n == s) * one_if (not (q (other n))) ≤ 0
    each n pass = elim (cases_eq (key n) s) [
      | inl e ↦ rw (pass e) (omega arith)
      | inr ne ↦ rw (ne_eqb (key n) s ne) (omega arith)
    ]

pass_all : (q : ℕ → Bool) (key other : Need → ℕ) (needs : List Need) (s : ℕ) (n : Need) → sum_by (λ (n : Need). one_if (key n == s) * one_if (not (q (other n)))) needs ≡ 0 → Contains needs n → key n ≡ s → q (other n) ≡ true
pass_all q key other needs s n none (k, lt, is) e =
    let f : Need → ℕ = λ (n : Need). one_if (key n == s) * one_if (not (q (other n))) in
    let le = get_or-le-sum_by f needs k n lt in
    let here : f (get_or needs k n) ≡ f n = ap f is in
    let one : f n ≡ one_if (not (q (other n))) = rw (eq-eqb (key n) s e) (omega arith) in
    not-false _ (one_zero _ (omega (arith, le, here, one, none)))

no_waits : (c : Contents) (states : List StepState) (s : ℕ) → IsSound c → ((a : ℕ) → NeedsDirectly c.needs s a → is_standing (state_at states a) ≡ true) → unmet_of c states s ≡ 0
no_waits c states s sound all = sum_of (λ a. one_if (not (is_standing (state_at states a)))) c s sound.known
    ∙ all_pass (λ a. is_standing (state_at states a)) (λ (n : Need). n.step) (λ (n : Need). n.on) c.needs s (λ n has e. all n.on (let whole : Contains c.needs (record { step = n.step; on = n.on }) = has in rw e at whole))

waits_none : (c : Contents) (states : List StepState) (s a : ℕ) → IsSound c → unmet_of c states s ≡ 0 → NeedsDirectly c.needs s a → is_standing (state_at states a) ≡ true
waits_none c states s a sound none needed = pass_all (λ a. is_standing (state_at states a)) (λ (n : Need). n.step) (λ (n : Need). n.on) c.needs s (record { step = s; on = a })
    (sym (sum_of (λ a. one_if (not (is_standing (state_at states a)))) c s sound.known) ∙ none) needed refl

no_holds : (c : Contents) (states : List StepState) (s : ℕ) → IsSound c → ((b : ℕ) → NeedsDirectly c.needs b s → is_off (state_at states b) ≡ true) → held_of c states s ≡ 0
no_holds c states s sound all = sum_on (λ b. one_if (not (is_off (state_at states b)))) c s sound.known
    ∙ all_pass (λ b. is_off (state_at states b)) (λ (n : Need). n.on) (λ (n : Need). n.step) c.needs s (λ n has e. all n.step (let whole : Contains c.needs (record { step = n.step; on = n.on }) = has in rw e at whole))

holds_none : (c : Contents) (states : List StepState) (s b : ℕ) → IsSound c → held_of c states s ≡ 0 → NeedsDirectly c.needs b s → is_off (state_at states b) ≡ true
holds_none c states s b sound none needed = pass_all (λ b. is_off (state_at states b)) (λ (n : Need). n.on) (λ (n : Need). n.step) c.needs s (record { step = b; on = s })
    (sym (sum_on (λ b. one_if (not (is_off (state_at states b)))) c s sound.known) ∙ none) needed refl

-- a step that is ready and not waiting counts as committed
committed_from : (x : StepState) (g : Bool) (u h : ℕ) → is_ready x g u h ≡ true → (x ≡ Waiting → ⊥) → commits x ≡ true
committed_from Waiting g u h e ne = absurd (ne refl)
committed_from Committed g u h e ne = refl
committed_from Void g u h e ne = refl
committed_from _ g u h e ne = absurd (false≢true e)

ready_committed : (x : StepState) (g : Bool) (u h : ℕ) → commits x ≡ true → is_ready x g u h ≡ (not g && h == 0)
ready_committed Committed g u h is = refl
ready_committed Void g u h is = refl
ready_committed _ g u h is = absurd (false≢true is)

-- what a row's tables say
module _ (c : Contents) (states : List StepState) (goal : List Bool) (turn : Turn) (misses undo_misses : List ℕ) (aborted : Bool) (unmet held : List ℕ) (busy unfinished : ℕ) (ready : List Bool) (old : IsRow c states goal unmet held busy unfinished ready) where
  abbrev pub the_row : Row
  the_row = record { definition = c; states = states; goal = goal; turn = turn; misses = misses; undo_misses = undo_misses; aborted = aborted }

  pub may_run : (s : ℕ) → s < length c.steps → turn ≡ Going → get_or ready s false ≡ true → state_at states s ≡ Waiting → MayRun the_row s
  may_run s lt going marked waiting =
      let e : is_ready (state_at states s) (get_or goal s false) (get_or unmet s 0) (get_or held s 0) ≡ true = sym (old.ready_is s lt) ∙ marked in
      let two = and_both (get_or goal s false) (get_or unmet s 0 == 0) (rw waiting at e) in
      record {
        is_step = lt;
        going = going;
        wanted = two.0;
        waiting = waiting;
        stand = λ a needed. waits_none c states s a old.sound (sym (old.counted.unmet_is s lt) ∙ eqb-true _ _ two.1) needed;
      }

  pub may_undo : (s : ℕ) → s < length c.steps → turn ≡ Going → get_or ready s false ≡ true → (state_at states s ≡ Waiting → ⊥) → MayUndo the_row s
  may_undo s lt going marked apart =
      let e : is_ready (state_at states s) (get_or goal s false) (get_or unmet s 0) (get_or held s 0) ≡ true = sym (old.ready_is s lt) ∙ marked in
      let committed = committed_from (state_at states s) (get_or goal s false) (get_or unmet s 0) (get_or held s 0) e apart in
      let two = and_both (not (get_or goal s false)) (get_or held s 0 == 0) (sym (ready_committed (state_at states s) (get_or goal s false) (get_or unmet s 0) (get_or held s 0) committed) ∙ e) in
      record {
        is_step = lt;
        going = going;
        unwanted = not-true _ two.0;
        committed = committed;
        off = λ b needed. holds_none c states s b old.sound (sym (old.counted.held_is s lt) ∙ eqb-true _ _ two.1) needed;
      }

  run_ready : (s : ℕ) → MayRun the_row s → get_or ready s false ≡ true
  run_ready s may =
      let none : get_or unmet s 0 ≡ 0 = old.counted.unmet_is s may.is_step ∙ no_waits c states s old.sound may.stand in
      old.ready_is s may.is_step ∙ rw (may.waiting, may.wanted, none) refl

  undo_ready : (s : ℕ) → MayUndo the_row s → get_or ready s false ≡ true
  undo_ready s may =
      let none : get_or held s 0 ≡ 0 = old.counted.held_is s may.is_step ∙ no_holds c states s old.sound may.off in
      old.ready_is s may.is_step ∙ ready_committed (state_at states s) (get_or goal s false) (get_or unmet s 0) (get_or held s 0) may.committed ∙ rw (may.unwanted, none) refl

  pub run_exactly : (s : ℕ) → s < length c.steps → turn ≡ Going → state_at states s ≡ Waiting → IsTrue (get_or ready s false) ↔ MayRun the_row s
  run_exactly s lt going waiting = (λ on. may_run s lt going on waiting, λ may. run_ready s may)

  pub undo_exactly : (s : ℕ) → s < length c.steps → turn ≡ Going → commits (state_at states s) ≡ true → IsTrue (get_or ready s false) ↔ MayUndo the_row s
  undo_exactly s lt going committed = (λ on. may_undo s lt going on (λ waiting. absurd (false≢true (sym (ap commits waiting) ∙ committed))), λ may. undo_ready s may)

  pub plan_exactly : turn ≡ Draining → IsTrue (busy == 0) ↔ MayPlan the_row
  plan_exactly draining = (
    λ zero. record {
      draining = draining;
      drained = λ s lt. elim (cases_Bool (is_busy (state_at states s))) [
        | inl on ↦ let one : one_if (is_busy (state_at states s)) ≡ 1 = ap one_if on in absurd (omega (arith, old.counted.busy_is, eqb-true busy 0 zero, get_or-le-sum_by (λ y. one_if (is_busy y)) states s Waiting (omega (arith, lt, old.states_sized)), one))
        | inr off ↦ off
      ];
    },
    λ may. eq-eqb busy 0 (old.counted.busy_is ∙ omega (arith, sum_by-le (λ y. one_if (is_busy y)) 0 states (All-from_get_or (λ y. one_if (is_busy y) ≤ 0) states Waiting (λ i lt. let none : one_if (is_busy (state_at states i)) ≡ 0 = ap one_if (may.drained i (omega (arith, lt, old.states_sized))) in omega (arith, none))))),
  )

  -- without a mark nothing is allowed while the saga is going
  pub allows_none : turn ≡ Going → ((s : ℕ) → s < length ready → get_or ready s false ≡ false) → RowAllowsNone the_row
  allows_none going none (Run s) may = false≢true (sym (none s (omega (arith, may.is_step, old.ready_sized))) ∙ run_ready s may)
  allows_none going none (Undo s) may = false≢true (sym (none s (omega (arith, may.is_step, old.ready_sized))) ∙ undo_ready s may)
  allows_none going none Plan may = let e : Going ≡ Draining = sym going ∙ may.draining in cc

  -- and the first mark comes first
  pub comes_first : (s : ℕ) → turn ≡ Going → ((k : ℕ) → k < s → get_or ready k false ≡ false) → (u : RowTask) → RowAllows the_row u → s ≤ task_step u
  comes_first s going none (Run t) may = elim (cases_lt t s) [ inl lt ↦ absurd (false≢true (sym (none t lt) ∙ run_ready t may)) | inr le ↦ le ]
  comes_first s going none (Undo t) may = elim (cases_lt t s) [ inl lt ↦ absurd (false≢true (sym (none t lt) ∙ undo_ready t may)) | inr le ↦ le ]
  comes_first s going none Plan may = let e : Going ≡ Draining = sym going ∙ may.draining in absurd (let bad : ⊥ = cc in bad)

  -- with an busy step nothing is allowed while the saga is draining
  pub drains : turn ≡ Draining → (busy ≡ 0 → ⊥) → RowAllowsNone the_row
  drains draining some (Run s) may = let e : Going ≡ Draining = sym may.going ∙ draining in cc
  drains draining some (Undo s) may = let e : Going ≡ Draining = sym may.going ∙ draining in cc
  drains draining some Plan may = some (old.counted.busy_is ∙ omega (arith, sum_by-le (λ y. one_if (is_busy y)) 0 states (All-from_get_or (λ y. one_if (is_busy y) ≤ 0) states Waiting (λ i lt. let none : one_if (is_busy (state_at states i)) ≡ 0 = ap one_if (may.drained i (omega (arith, lt, old.states_sized))) in omega (arith, none)))))

-- a row in which nothing has happened
all_waiting : (n a : ℕ) → state_at (replicate n Waiting) a ≡ Waiting
all_waiting n a = elim (cases_lt a n) [
  | inl lt ↦ get_or-replicate n a Waiting Waiting lt
  | inr past ↦ let long : length (replicate {A = StepState} n Waiting) ≡ n = length-replicate {A = StepState} n Waiting in get_or_past (replicate n Waiting) a Waiting (omega (arith, long))
]

count_all : (p : ℕ → Bool) (xs : List ℕ) → ((a : ℕ) → p a ≡ true) → count_by p xs ≡ length xs
count_all p [] all = refl
count_all p (x ∷ xs) all = let one : one_if (p x) ≡ 1 = ap one_if (all x) in omega (arith, sum_by-cons (λ a. one_if (p a)) x xs, one, count_all p xs all)

count_none : {X : Type 0} (p : X → Bool) (xs : List X) → ((k : ℕ) (d : X) → k < length xs → p (get_or xs k d) ≡ false) → count_by p xs ≡ 0
count_none p [] none = refl
count_none p (x ∷ xs) none =
    let zero_here : one_if (p x) ≡ 0 = ap one_if (none 0 x (omega arith)) in
    omega (arith, sum_by-cons (λ a. one_if (p a)) x xs, zero_here, count_none p xs (λ k d lt. none (suc k) d (omega (arith, lt))))

pub fresh : (c : Contents) (states : List StepState) (goal : List Bool) (unmet held : List ℕ) (unfinished : ℕ) (ready : List Bool) → IsSound c → states ≡ replicate (length c.steps) Waiting → goal ≡ replicate (length c.steps) true → length unmet ≡ length c.steps → ((s : ℕ) → s < length c.steps → get_or unmet s 0 ≡ length (needs_of c s)) → held ≡ replicate (length c.steps) 0 → unfinished ≡ unfinished_in c states goal → length ready ≡ length c.steps → ((s : ℕ) → s < length c.steps → get_or ready s false ≡ ready_at states goal unmet held s) → IsRow c states goal unmet held 0 unfinished ready
fresh c states goal unmet held unfinished ready sound is isg sized each ish left ready_sized marks = record {
  sound = sound;
  states_sized = ap length is ∙ length-replicate {A = StepState} (length c.steps) Waiting;
  goal_sized = ap length isg ∙ length-replicate {A = Bool} (length c.steps) true;
  ready_sized = ready_sized;
  counted = record {
    unmet_sized = sized;
    held_sized = ap length ish ∙ length-replicate {A = ℕ} (length c.steps) 0;
    unmet_is = λ s lt. each s lt ∙ sym (rw is (count_all (λ a. not (is_standing (state_at (replicate (length c.steps) Waiting) a))) (needs_of c s) (λ a. rw (all_waiting (length c.steps) a) refl)));
    held_is = λ s lt. rw (ish, is) (get_or-replicate (length c.steps) s 0 0 lt ∙ sym (count_none (λ a. not (is_off (state_at (replicate (length c.steps) Waiting) a))) (needed_by c s) (λ k d lt. rw (all_waiting (length c.steps) (get_or (needed_by c s) k d)) refl)));
    busy_is = rw is (sym (count_none is_busy (replicate (length c.steps) Waiting) (λ k d lt.
        let long : length (replicate {A = StepState} (length c.steps) Waiting) ≡ length c.steps = length-replicate {A = StepState} (length c.steps) Waiting in
        ap is_busy (get_or-replicate (length c.steps) k Waiting d (omega (arith, lt, long))))));
    unfinished_is = left;
  };
  ready_is = marks;
}

-- a row is finished where no step is counted
pub ended_from : (c : Contents) (states : List StepState) (goal : List Bool) (unfinished : ℕ) → unfinished ≡ unfinished_in c states goal → (unfinished == 0) ≡ true → (s : ℕ) → s < length c.steps → is_finished (mark_at goal s) (state_at states s) ≡ true
ended_from c states goal unfinished is none s lt =
    let zero_s : unfinished_at states goal s ≡ 0 = omega (arith, sum_has (length c.steps) (unfinished_at states goal) s lt, is, eqb-true unfinished 0 none) in
    not-false (is_finished (mark_at goal s) (state_at states s)) (one_zero (not (is_finished (mark_at goal s) (state_at states s))) zero_s)

pub ended_into : (c : Contents) (states : List StepState) (goal : List Bool) (unfinished : ℕ) → unfinished ≡ unfinished_in c states goal → ((s : ℕ) → s < length c.steps → is_finished (mark_at goal s) (state_at states s) ≡ true) → (unfinished == 0) ≡ true
ended_into c states goal unfinished is all = eq-eqb unfinished 0 (is ∙ sum_zero (length c.steps) (unfinished_at states goal) (λ s lt. ap (λ b. one_if (not b)) (all s lt)))
