-- The first task of a book, and what follows where there is none.
use Rattle.std.proofs.Common.{◌≡◌, ℕ, zero, suc, ◌+◌, ◌*◌, ◌<◌, ◌≤◌, ◌⊎◌, List, length, None, refl, sym, ap, ◌∙◌, subst, inl, inr, arith, IsSomeAnd}
use Rattle.std.proofs.Math.Nat.{mul-le-mul, mul-lt-mul_of_pos_right}
use Rattle.std.proofs.lemmas.Bool.{cases_eq, cases_lt}
use Rattle.saga_def.specs.Contents.{Contents}
use Rattle.saga_history.specs.declared.events.Event.{Event}
use Rattle.saga_history.specs.declared.tasks.Task.{Task}
use Rattle.saga_history.specs.declared.tasks.Task.TheVariants.{Run, Undo, Plan}
use Rattle.saga_history.specs.declared.transitions.Transition.TheVariants as transition
use Rattle.saga_history.specs.Changes.{Change, moves, past, changes, starts_plan}
use Rattle.saga_history.specs.Rules.{definition, definition_at, SagaMay}
use Rattle.saga_history.specs.Tasks.{TaskIsAllowed}
use Rattle.saga_history.specs.Turns.{opened_with}
use Rattle.saga_history.proofs.ProgressLemmas.{all_ended_or_wait}
use Rattle.saga_history.proofs.SagaLemmas.{holds_at}
use Rattle.saga_rows.specs.declared.tasks.RowTask.{RowTask}
use Rattle.saga_rows.specs.declared.tasks.RowTask.TheVariants as row
use Rattle.saga_rows.specs.Row.{IsFirstOfRow, Row, RowAllows, RowAllowsNone, task_step}
use Rattle.saga_rows.specs.Rows.{IsNext, row_at}
use Rattle.saga_rows.proofs.FollowLemmas.{may_from, plan_from, plan_into}
use Rattle.saga_rows.specs.Limits.{max_rows}
use Rattle.saga_core.specs.Book.{IsBook, number, book_of}
use Rattle.saga_core.specs.Journal.{Journal}
use Rattle.saga_core.specs.Tasks.{AllRest, IsFirstTask, IsFirstTaskFrom, NoTaskIsAllowed, NoTaskIsAllowedFrom, row_task, saga_of_task, step_of_task, task_of}
use Rattle.saga_core.proofs.BookLemmas.{move_allowed, number_apart}
use Rattle.saga_core.proofs.SagaLemmas.{of_saga}

-- a number is that of a row, or of none
pub row_or_none : (first stride i n : ℕ) → ((k : ℕ) × (k < n) × (i ≡ number first stride k)) ⊎ ((k : ℕ) → k < n → i ≡ number first stride k → ⊥)
row_or_none first stride i zero = inr (λ k lt is. absurd (let h : k < 0 = lt in omega (arith, h)))
row_or_none first stride i (suc n) = elim (cases_eq i (number first stride n)) [
  | inl e ↦ inl (n, omega arith, e)
  | inr ne ↦ elim (row_or_none first stride i n) [
    | inl (k, lt, is) ↦ inl (k, omega (arith, lt), is)
    | inr none ↦ inr (λ k lt is. elim (cases_eq k n) [
      | inl e ↦ ne (is ∙ ap (number first stride) e)
      | inr other ↦ none k (omega (arith, lt, other)) is
    ])
  ]
]

-- what a task asks of the changes of its saga
abbrev Asks : RowTask → Contents → List Change → Type 0
Asks (row.Run s) d l = SagaMay d l (moves s transition.StartRun)
Asks (row.Undo s) d l = SagaMay d l (moves s transition.StartUndo)
Asks row.Plan d l = SagaMay d l starts_plan

asked : (shelf : List Contents) (h : List Event) (u : Task) → TaskIsAllowed shelf h u → IsSomeAnd (definition shelf (changes (saga_of_task u) h)) (λ d. Asks (row_task u) d (changes (saga_of_task u) h))
asked shelf h (Run i s) may = may
asked shelf h (Undo i s) may = may
asked shelf h (Plan i) may = may

holds_opened : (shelf : List Contents) (l : List Change) (P : Contents → Type 0) → opened_with l ≡ None → IsSomeAnd (definition shelf l) P → ⊥
holds_opened shelf l P none holds = subst (λ o. IsSomeAnd (definition_at shelf o) P) none holds

step_same : (u : Task) → task_step (row_task u) ≡ step_of_task u
step_same (Run i s) = refl
step_same (Undo i s) = refl
step_same (Plan i) = refl

saga_same : (t : RowTask) (i : ℕ) → (saga_of_task (task_of i t) ≡ i) × (step_of_task (task_of i t) ≡ task_step t)
saga_same (row.Run s) i = (refl, refl)
saga_same (row.Undo s) i = (refl, refl)
saga_same row.Plan i = (refl, refl)

module _ (shelf : List Contents) (first stride : ℕ) (rows : List Row) (j : Journal) (b : IsBook shelf first stride rows j) where
  row_into : (k : ℕ) → k < length rows → (t : RowTask) → RowAllows (row_at rows k) t → TaskIsAllowed shelf (past j.history) (task_of (number first stride k) t)
  row_into k lt (row.Run s) may = move_allowed shelf first stride rows j b k lt (number first stride k) s transition.StartRun refl may
  row_into k lt (row.Undo s) may = move_allowed shelf first stride rows j b k lt (number first stride k) s transition.StartUndo refl may
  row_into k lt row.Plan may = of_saga shelf first stride rows j b k lt (number first stride k) refl (λ d l. SagaMay d l starts_plan) (plan_into shelf (row_at rows k) _ (b.follow k lt) may)

  row_from : (k : ℕ) → k < length rows → (t : RowTask) → Asks t (row_at rows k).definition (changes (number first stride k) (past j.history)) → RowAllows (row_at rows k) t
  row_from k lt (row.Run s) may = may_from shelf (row_at rows k) _ (b.follow k lt) s transition.StartRun may
  row_from k lt (row.Undo s) may = may_from shelf (row_at rows k) _ (b.follow k lt) s transition.StartUndo may
  row_from k lt row.Plan may = plan_from shelf (row_at rows k) _ (b.follow k lt) may

  -- an allowed task is one of a row
  task_row : (u : Task) → TaskIsAllowed shelf (past j.history) u → (k : ℕ) × (k < length rows) × (saga_of_task u ≡ number first stride k) × RowAllows (row_at rows k) (row_task u)
  task_row u may =
      let asks = asked shelf (past j.history) u may in
      elim (row_or_none first stride (saga_of_task u) (length rows)) [
        | inl (k, lt, is) ↦
            let own : IsSomeAnd (definition shelf (changes (number first stride k) (past j.history))) (λ d. Asks (row_task u) d (changes (number first stride k) (past j.history))) = subst (λ (v : ℕ). IsSomeAnd (definition shelf (changes v (past j.history))) (λ d. Asks (row_task u) d (changes v (past j.history)))) is asks in
            (k, lt, is, row_from k lt (row_task u) (holds_at (definition shelf (changes (number first stride k) (past j.history))) (row_at rows k).definition _ (b.follow k lt).defined own))
        | inr none ↦ absurd (holds_opened shelf (changes (saga_of_task u) (past j.history)) _ (b.others (saga_of_task u) none) asks)
      ]

  pub next_none : ((k : ℕ) → k < length rows → RowAllowsNone (row_at rows k)) → NoTaskIsAllowed (book_of shelf first stride j)
  next_none none u may = let r = task_row u may in none r.0 r.1 (row_task u) r.3

  number_below : (m k : ℕ) → m < k → number first stride m < number first stride k
  number_below m k lt = let some : 0 < stride = omega (arith, b.begins) in let more : m * stride < k * stride = mul-lt-mul_of_pos_right lt some in omega (arith, more)

  pub next_first : (k : ℕ) (t : RowTask) → IsNext rows k t → IsFirstTask (book_of shelf first stride j) (task_of (number first stride k) t)
  next_first k t next = record {
    allowed = row_into k next.within t next.first.0;
    first = λ u may.
        let r = task_row u may in
        let own = saga_same t (number first stride k) in
        elim (cases_lt r.0 k) [
          | inl less ↦ absurd (next.before r.0 less (row_task u) r.3)
          | inr more ↦ elim (cases_eq k r.0) [
            | inl e ↦ inr (
              own.0 ∙ ap (number first stride) e ∙ sym r.2,
              let le = next.first.1 (row_task u) (subst (λ (v : ℕ). RowAllows (row_at rows v) (row_task u)) (sym e) r.3) in omega (arith, le, own.1, step_same u),
            )
            | inr ne ↦ inl (let far = number_below k r.0 (omega (arith, more, ne)) in omega (arith, far, own.0, r.2))
          ]
        ];
  }

  pub next_rests : ((k : ℕ) → k < length rows → RowAllowsNone (row_at rows k)) → AllRest (book_of shelf first stride j)
  next_rests none i d at = all_ended_or_wait shelf (past j.history) b.sound b.legal i d at (λ t named may. next_none none t may)

  -- the same of the sagas from a number on
  pub from_none : (from : ℕ) → ((k : ℕ) → k < length rows → from ≤ number first stride k → RowAllowsNone (row_at rows k))
      → NoTaskIsAllowedFrom (book_of shelf first stride j) from
  from_none from none u may within =
      let r = task_row u may in none r.0 r.1 (subst (λ (v : ℕ). from ≤ v) r.2 within) (row_task u) r.3

  pub from_first : (from k : ℕ) (t : RowTask) → k < length rows → from ≤ number first stride k → IsFirstOfRow (row_at rows k) t
      → ((m : ℕ) → m < k → from ≤ number first stride m → RowAllowsNone (row_at rows m))
      → IsFirstTaskFrom (book_of shelf first stride j) from (task_of (number first stride k) t)
  from_first from k t lt far may before = record {
    allowed = row_into k lt t may.0;
    within = let own = saga_same t (number first stride k) in omega (arith, own.0, far);
    first = λ u allowed within.
        let r = task_row u allowed in
        let own = saga_same t (number first stride k) in
        elim (cases_lt r.0 k) [
          | inl less ↦ absurd (before r.0 less (subst (λ (v : ℕ). from ≤ v) r.2 within) (row_task u) r.3)
          | inr more ↦ elim (cases_eq k r.0) [
            | inl e ↦ inr (
              own.0 ∙ ap (number first stride) e ∙ sym r.2,
              let le = may.1 (row_task u) (subst (λ (v : ℕ). RowAllows (row_at rows v) (row_task u)) (sym e) r.3) in omega (arith, le, own.1, step_same u),
            )
            | inr ne ↦ inl (let far = number_below k r.0 (omega (arith, more, ne)) in omega (arith, far, own.0, r.2))
          ]
        ];
  }

  pub from_small : (k : ℕ) (t : RowTask) → k < length rows → saga_of_task (task_of (number first stride k) t) < 16 * (max_rows + 1)
  from_small k t lt =
      let own = saga_same t (number first stride k) in
      let few : k ≤ max_rows = omega (arith, lt, b.few) in
      let many : k * stride ≤ max_rows * 16 = mul-le-mul few b.near in
      omega (arith, own.0, many, b.begins, b.near)

  -- a task is allowed where its row allows it, and none is of a saga without a row
  pub start_into : (u : Task) (k : ℕ) → k < length rows → saga_of_task u ≡ number first stride k → RowAllows (row_at rows k) (row_task u)
      → TaskIsAllowed shelf (past j.history) u
  start_into (Run i s) k lt is may = subst (λ (v : ℕ). TaskIsAllowed shelf (past j.history) (Run v s)) (sym is) (row_into k lt (row.Run s) may)
  start_into (Undo i s) k lt is may = subst (λ (v : ℕ). TaskIsAllowed shelf (past j.history) (Undo v s)) (sym is) (row_into k lt (row.Undo s) may)
  start_into (Plan i) k lt is may = subst (λ (v : ℕ). TaskIsAllowed shelf (past j.history) (Plan v)) (sym is) (row_into k lt row.Plan may)

  pub start_from : (u : Task) (k : ℕ) → saga_of_task u ≡ number first stride k → TaskIsAllowed shelf (past j.history) u → RowAllows (row_at rows k) (row_task u)
  start_from u k is may =
      let r = task_row u may in
      let same : r.0 ≡ k = number_apart first stride r.0 k (omega (arith, b.begins)) (sym r.2 ∙ is) in
      subst (λ (v : ℕ). RowAllows (row_at rows v) (row_task u)) same r.3

  pub start_none : (u : Task) → ((k : ℕ) → k < length rows → saga_of_task u ≡ number first stride k → ⊥) → TaskIsAllowed shelf (past j.history) u → ⊥
  start_none u none may = let r = task_row u may in none r.0 r.1 r.2
