-- A book, one event further.
use Rattle.std.proofs.Common.{◌≡◌, ℕ, ◌+◌, ◌*◌, ◌/◌, ◌%◌, ◌-◌, ◌<◌, ◌≤◌, Bool, true, false, List, [], ◌∷◌, ◌++◌, length, Option, Some, refl, sym, ap, ◌∙◌, subst, inl, inr, arith, get_or, set, eqb, IsSomeAnd}
use Rattle.std.specs.Prelude.{if◌then◌else◌}
use Rattle.std.proofs.Math.Nat.{mul-mod_left, mul-div_cancel}
use Rattle.std.proofs.lemmas.Bool.{cases_eq, eq-eqb, ne_eqb}
use Rattle.std.proofs.lemmas.List.{get_or-set_other, get_or-set_same, length-set}
use Rattle.std.proofs.lemmas.List.Sums.{get_or-le-sum_by, sum_by-set}
use Rattle.saga_def.specs.Contents.{Contents}
use Rattle.saga_case.specs.declared.states.StepState.{StepState}
use Rattle.saga_case.specs.declared.states.StepState.TheVariants.{Waiting, Running, Undoing}
use Rattle.saga_case.specs.States.{commits}
use Rattle.saga_history.specs.declared.events.Event.{Event}
use Rattle.saga_history.specs.declared.transitions.Transition.{Transition}
use Rattle.saga_history.specs.declared.transitions.Transition.TheVariants as transition
use Rattle.saga_history.specs.declared.turns.Turn.{Turn}
use Rattle.saga_history.specs.Changes.{moves, saga_of, change_of, past, changes, step_event}
use Rattle.saga_history.specs.Merges.{is_opening, opened_sagas}
use Rattle.saga_history.specs.Rules.{definition, IsAllowed, StepMay}
use Rattle.saga_history.specs.States.{is_busy, state_after}
use Rattle.saga_history.specs.Turns.{opened_with, turn_after_transition}
use Rattle.saga_history.proofs.MergeLemmas.{changes_push_other, legal_push, past_push}
use Rattle.saga_history.proofs.SagaLemmas.{IsLegalUnder, changes_own, legal_under, saga_is_legal}
use Rattle.saga_rows.specs.Row.{HasRoom, Row, one_if, row_after, state_at}
use Rattle.saga_rows.specs.Rows.{no_row, row_at}
use Rattle.saga_rows.specs.Follows.{Follows, RowMay}
use Rattle.saga_rows.proofs.FollowLemmas.{follows_move, may_from, may_into}
use Rattle.saga_rows.proofs.FollowLemmas as follow
use Rattle.saga_core.specs.Book.{IsBook, busy_in, number, plans_in, plans_in_turn}
use Rattle.saga_core.specs.Journal.{Journal}
use Rattle.saga_core.specs.Tasks.{starts}

-- ---- numbers of one stride

pub at_stride : (first stride saga k : ℕ) → saga ≡ number first stride k → (saga - first) % stride ≡ 0
at_stride first stride saga k is =
    let off : saga - first ≡ k * stride = omega (arith, is) in
    ap (λ v. v % stride) off ∙ mul-mod_left k stride

at_place : (first stride saga k : ℕ) → 0 < stride → saga ≡ number first stride k → (saga - first) / stride ≡ k
at_place first stride saga k some is =
    let off : saga - first ≡ k * stride = omega (arith, is) in
    ap (λ v. v / stride) off ∙ mul-div_cancel k some

pub number_apart : (first stride j k : ℕ) → 0 < stride → number first stride j ≡ number first stride k → j ≡ k
number_apart first stride j k some same =
    sym (at_place first stride (number first stride j) j some refl) ∙ at_place first stride (number first stride j) k some same

-- ---- what an event of a step is

pub step_saga : (t : Transition) (i s : ℕ) → saga_of (step_event i s t) ≡ i
step_saga transition.StartRun i s = refl
step_saga transition.Commit i s = refl
step_saga transition.Void i s = refl
step_saga transition.Missed i s = refl
step_saga transition.Fail i s = refl
step_saga transition.StartUndo i s = refl
step_saga transition.Undone i s = refl
step_saga transition.UndoMissed i s = refl
step_saga transition.UndoFail i s = refl

step_change : (t : Transition) (i s : ℕ) → change_of (step_event i s t) ≡ moves s t
step_change transition.StartRun i s = refl
step_change transition.Commit i s = refl
step_change transition.Void i s = refl
step_change transition.Missed i s = refl
step_change transition.Fail i s = refl
step_change transition.StartUndo i s = refl
step_change transition.Undone i s = refl
step_change transition.UndoMissed i s = refl
step_change transition.UndoFail i s = refl

step_opens : (t : Transition) (i s : ℕ) → is_opening (change_of (step_event i s t)) ≡ false
step_opens t i s = ap is_opening (step_change t i s)

pub holds_from : (o : Option Contents) (d : Contents) (P : Contents → Type 0) → o ≡ Some d → P d → IsSomeAnd o P
holds_from o d P is p = subst (λ v. IsSomeAnd v P) (sym is) p

step_allowed : (shelf : List Contents) (h : List Event) (t : Transition) (i s : ℕ) → IsSomeAnd (definition shelf (changes i h)) (λ d. StepMay d (changes i h) s t) → IsAllowed shelf h (step_event i s t)
step_allowed shelf h transition.StartRun i s may = may
step_allowed shelf h transition.Commit i s may = may
step_allowed shelf h transition.Void i s may = may
step_allowed shelf h transition.Missed i s may = may
step_allowed shelf h transition.Fail i s may = may
step_allowed shelf h transition.StartUndo i s may = may
step_allowed shelf h transition.Undone i s may = may
step_allowed shelf h transition.UndoMissed i s may = may
step_allowed shelf h transition.UndoFail i s may = may

-- ---- the sagas that a history opens

pub opened_push : (h : List Event) (e : Event) → is_opening (change_of e) ≡ false → opened_sagas (h ++ e ∷ []) ≡ opened_sagas h
opened_push [] e quiet = rw quiet refl
opened_push (f ∷ h) e quiet = more (is_opening (change_of f)) (opened_push h e quiet)
  where
    more : (b : Bool) → opened_sagas (h ++ e ∷ []) ≡ opened_sagas h → (if b then saga_of f ∷ opened_sagas (h ++ e ∷ []) else opened_sagas (h ++ e ∷ [])) ≡ (if b then saga_of f ∷ opened_sagas h else opened_sagas h)
    more true same = ap (λ (l : List ℕ). saga_of f ∷ l) same
    more false same = same

-- ---- rows

-- an event of a saga is the last of its changes
pub changes_push_own : (i : ℕ) (h : List Event) (e : Event) → eqb i (saga_of e) ≡ true → changes i (past (h ++ e ∷ [])) ≡ change_of e ∷ changes i (past h)
changes_push_own i h e is = ap (changes i) (past_push h e) ∙ changes_own i e (past h) is

-- the rows follow a history that grew by one event of the saga of one of them
follow_push : (shelf : List Contents) (number_of : ℕ → ℕ) (rows : List Row) (h : List Event) (e : Event) (k : ℕ) (row : Row) → k < length rows → saga_of e ≡ number_of k → ((j : ℕ) → number_of j ≡ number_of k → j ≡ k) → ((j : ℕ) → j < length rows → Follows shelf (row_at rows j) (changes (number_of j) (past h))) → Follows shelf row (change_of e ∷ changes (number_of k) (past h)) → (j : ℕ) → j < length (set rows k row) → Follows shelf (row_at (set rows k row) j) (changes (number_of j) (past (h ++ e ∷ [])))
follow_push shelf number_of rows h e k row lt named apart follow now j below = elim (cases_eq j k) [
  | inl is ↦
      let own : eqb (number_of j) (saga_of e) ≡ true = eq-eqb (number_of j) (saga_of e) (ap number_of is ∙ sym named) in
      rw (changes_push_own (number_of j) h e own, is, get_or-set_same rows k row no_row lt) now
  | inr other ↦
      let away : eqb (number_of j) (saga_of e) ≡ false = ne_eqb (number_of j) (saga_of e) (λ same. other (apart j (same ∙ named))) in
      rw (changes_push_other (number_of j) h e away, get_or-set_other rows k j row no_row other) (follow j (omega (arith, length-set rows k row, below)))
]

-- a step that counts as committed is not busy
commits_quiet : (x : StepState) → commits x ≡ true → is_busy x ≡ false
commits_quiet Running is = cc
commits_quiet Undoing is = cc
commits_quiet _ is = refl

-- a transition that starts something leads from a state in which nothing is owed to one in which an end is
start_busy : (t : Transition) (row : Row) (s : ℕ) → starts t ≡ true → RowMay row s t → (one_if (is_busy (state_at row.states s)) ≡ 0) × (one_if (is_busy (state_after t)) ≡ 1)
start_busy transition.StartRun row s e may = (ap (λ x. one_if (is_busy x)) may.waiting, refl)
start_busy transition.Commit row s e may = cc
start_busy transition.Void row s e may = cc
start_busy transition.Missed row s e may = cc
start_busy transition.Fail row s e may = cc
start_busy transition.StartUndo row s e may = (ap one_if (commits_quiet (state_at row.states s) may.committed), refl)
start_busy transition.Undone row s e may = cc
start_busy transition.UndoMissed row s e may = cc
start_busy transition.UndoFail row s e may = cc

end_busy : (t : Transition) (row : Row) (s : ℕ) → starts t ≡ false → RowMay row s t → (one_if (is_busy (state_at row.states s)) ≡ 1) × (one_if (is_busy (state_after t)) ≡ 0)
end_busy transition.StartRun row s e may = cc
end_busy transition.Commit row s e may = (ap (λ x. one_if (is_busy x)) may.here, refl)
end_busy transition.Void row s e may = (ap (λ x. one_if (is_busy x)) may.here, refl)
end_busy transition.Missed row s e may = (ap (λ x. one_if (is_busy x)) may.0.here, refl)
end_busy transition.Fail row s e may = (ap (λ x. one_if (is_busy x)) may.0.here, refl)
end_busy transition.StartUndo row s e may = cc
end_busy transition.Undone row s e may = (ap (λ x. one_if (is_busy x)) may.here, refl)
end_busy transition.UndoMissed row s e may = (ap (λ x. one_if (is_busy x)) may.0.here, refl)
end_busy transition.UndoFail row s e may = (ap (λ x. one_if (is_busy x)) may.0.here, refl)

less_plans : (t : Transition) (turn : Turn) → plans_in_turn (turn_after_transition t turn) ≤ plans_in_turn turn
less_plans transition.StartRun turn = omega arith
less_plans transition.Commit turn = omega arith
less_plans transition.Void turn = omega arith
less_plans transition.Missed turn = omega arith
less_plans transition.Fail turn = omega arith
less_plans transition.StartUndo turn = omega arith
less_plans transition.Undone turn = omega arith
less_plans transition.UndoMissed turn = omega arith
less_plans transition.UndoFail turn = omega arith

module _ (shelf : List Contents) (first stride : ℕ) (rows : List Row) (j : Journal) (b : IsBook shelf first stride rows j) where
  -- one more event of the saga of a row, which opens none
  pub keeps_book : (k : ℕ) (e : Event) (row : Row) (owed' plans' : ℕ) → k < length rows → saga_of e ≡ number first stride k → is_opening (change_of e) ≡ false → IsAllowed shelf (past j.history) e → Follows shelf row (change_of e ∷ changes (number first stride k) (past j.history))
      → j.owed + busy_in row ≤ owed' + busy_in (row_at rows k) → j.plans + plans_in row ≤ plans' + plans_in (row_at rows k) → IsBook shelf first stride (set rows k row) (record { history = j.history ++ e ∷ []; owed = owed'; plans = plans' })
  keeps_book k e row owed' plans' lt named quiet allowed now busy planned =
      let same : opened_sagas (j.history ++ e ∷ []) ≡ opened_sagas j.history = opened_push j.history e quiet in
      record {
        sound = b.sound;
        legal = legal_push shelf j.history e b.legal allowed;
        follow = follow_push shelf (number first stride) rows j.history e k row lt named (λ m same. number_apart first stride m k (omega (arith, b.begins)) same) b.follow now;
        others = λ i none.
            let away : eqb i (saga_of e) ≡ false = ne_eqb i (saga_of e) (λ same. none k (omega (arith, lt, length-set rows k row)) (same ∙ named)) in
            ap opened_with (changes_push_other i j.history e away) ∙ b.others i (λ m below is. none m (omega (arith, below, length-set rows k row)) is);
        counted = ap length same ∙ b.counted ∙ sym (length-set rows k row);
        numbered = λ m below. ap (λ (l : List ℕ). get_or l m 0) same ∙ b.numbered m (omega (arith, below, ap length same));
        room = omega (arith, sum_by-set busy_in rows k row no_row lt, b.room, busy);
        room_for_plans = omega (arith, sum_by-set plans_in rows k row no_row lt, b.room_for_plans, planned);
        few = omega (arith, length-set rows k row, b.few);
        begins = b.begins;
        near = b.near;
      }

  module _ (k : ℕ) (lt : k < length rows) where
    legal_row : IsLegalUnder (row_at rows k).definition (changes (number first stride k) (past j.history))
    legal_row = legal_under shelf (row_at rows k).definition (changes (number first stride k) (past j.history)) (saga_is_legal shelf (number first stride k) (past j.history) b.legal) (b.follow k lt).defined

    pub has_room : (s : ℕ) (t : Transition) → s < length (row_at rows k).definition.steps → HasRoom (row_at rows k) s t
    has_room s t = follow.has_room shelf (row_at rows k) (changes (number first stride k) (past j.history)) (b.follow k lt) s t legal_row

    pub move_allowed : (i s : ℕ) (t : Transition) → i ≡ number first stride k → RowMay (row_at rows k) s t → IsAllowed shelf (past j.history) (step_event i s t)
    move_allowed i s t is may =
        let f = b.follow k lt in
        subst (λ (v : ℕ). IsAllowed shelf (past j.history) (step_event v s t)) (sym is)
        (step_allowed shelf (past j.history) t (number first stride k) s (holds_from (definition shelf (changes (number first stride k) (past j.history))) (row_at rows k).definition _ f.defined (may_into shelf (row_at rows k) _ f s t legal_row may)))

    pub move_denied : (i s : ℕ) (t : Transition) → i ≡ number first stride k → s < length (row_at rows k).definition.steps → (RowMay (row_at rows k) s t → ⊥) → IsSomeAnd (definition shelf (changes i (past j.history))) (λ d. (s < length d.steps) × (StepMay d (changes i (past j.history)) s t → ⊥))
    move_denied i s t is below none =
        let f = b.follow k lt in
        subst (λ (v : ℕ). IsSomeAnd (definition shelf (changes v (past j.history))) (λ d. (s < length d.steps) × (StepMay d (changes v (past j.history)) s t → ⊥))) (sym is)
        (holds_from (definition shelf (changes (number first stride k) (past j.history))) (row_at rows k).definition _ f.defined (below, λ may. none (may_from shelf (row_at rows k) _ f s t may)))

    follows_step : (i s : ℕ) (t : Transition) → s < length (row_at rows k).definition.steps → Follows shelf (row_after (row_at rows k) s t) (change_of (step_event i s t) ∷ changes (number first stride k) (past j.history))
    follows_step i s t below = rw (step_change t i s) (follows_move shelf (row_at rows k) _ (b.follow k lt) s t below)

    busy_step : (s : ℕ) (t : Transition) → s < length (row_at rows k).definition.steps → busy_in (row_after (row_at rows k) s t) + one_if (is_busy (state_at (row_at rows k).states s)) ≡ busy_in (row_at rows k) + one_if (is_busy (state_after t))
    busy_step s t below = sum_by-set (λ (x : StepState). one_if (is_busy x)) (row_at rows k).states s (state_after t) Waiting (omega (arith, below, (b.follow k lt).sized.states))

    pub is_step : (s : ℕ) (t : Transition) → RowMay (row_at rows k) s t → s < length (row_at rows k).definition.steps
    is_step s t may = (may_into shelf (row_at rows k) _ (b.follow k lt) s t legal_row may).is_step

    pub start_book : (i s : ℕ) (t : Transition) → i ≡ number first stride k → starts t ≡ true → RowMay (row_at rows k) s t → IsBook shelf first stride (set rows k (row_after (row_at rows k) s t)) (record { history = j.history ++ step_event i s t ∷ []; owed = j.owed + 1; plans = j.plans })
    start_book i s t is begin may =
        let below = is_step s t may in
        let two = start_busy t (row_at rows k) s begin may in
        keeps_book k (step_event i s t) (row_after (row_at rows k) s t) (j.owed + 1) j.plans lt (step_saga t i s ∙ is) (step_opens t i s) (move_allowed i s t is may) (follows_step i s t below)
        (omega (arith, busy_step s t below, two.0, two.1)) (omega (arith, less_plans t (row_at rows k).turn))

    pub end_owed : (s : ℕ) (t : Transition) → starts t ≡ false → RowMay (row_at rows k) s t → 0 < j.owed
    end_owed s t end may =
        let below = is_step s t may in
        let two = end_busy t (row_at rows k) s end may in
        omega (arith, get_or-le-sum_by (λ (x : StepState). one_if (is_busy x)) (row_at rows k).states s Waiting (omega (arith, below, (b.follow k lt).sized.states)), two.0, get_or-le-sum_by busy_in rows k no_row lt, b.room)

    pub end_book : (i s : ℕ) (t : Transition) → i ≡ number first stride k → starts t ≡ false → RowMay (row_at rows k) s t → IsBook shelf first stride (set rows k (row_after (row_at rows k) s t)) (record { history = j.history ++ step_event i s t ∷ []; owed = j.owed - 1; plans = j.plans })
    end_book i s t is end may =
        let below = is_step s t may in
        let two = end_busy t (row_at rows k) s end may in
        keeps_book k (step_event i s t) (row_after (row_at rows k) s t) (j.owed - 1) j.plans lt (step_saga t i s ∙ is) (step_opens t i s) (move_allowed i s t is may) (follows_step i s t below)
        (omega (arith, busy_step s t below, two.0, two.1, end_owed s t end may)) (omega (arith, less_plans t (row_at rows k).turn))
