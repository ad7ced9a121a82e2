-- Tasks that may begin, one after another.
use Rattle.std.proofs.Common.{◌≡◌, ◌≢◌, ◌∙◌, ◌⊎◌, ℕ, ◌+◌, ◌*◌, ◌-◌, ◌<◌, ◌≤◌, ◌++◌, ◌∷◌, [], List, Option, Some, None, IsSomeAnd, inl, inr, sym, ap, subst, arith, length, get_or, append_assoc, append-nil, length-append}
use Rattle.std.specs.Prelude.{Contains}
use Rattle.std.proofs.lemmas.Bool.{cases_eq, cases_lt}
use Rattle.std.proofs.Math.Seq.{get_or-append_right}
use Rattle.std.proofs.lemmas.List.Elements.{All-get_or, All-nil, All-push, All-weaker, Contains-append_left, Contains-push}
use Rattle.std.proofs.lemmas.List.Quantifiers.{all_pairs_push}
use Rattle.saga_def.specs.Contents.{Contents}
use Rattle.saga_history.specs.declared.tasks.Task.{Task}
use Rattle.saga_history.specs.declared.tasks.Task.TheVariants.{Run, Undo, Plan}
use Rattle.saga_history.specs.Rules.{definition_at}
use Rattle.saga_history.specs.Turns.{opened_with}
use Rattle.saga_history.proofs.SagaLemmas.{holds_at}
use Rattle.saga_core.specs.Book.{Book, changes_in, definition_in}
use Rattle.saga_core.specs.Refusals.{IsUnknown}
use Rattle.saga_core.specs.Tasks.{IsFirstTaskFrom, IsNotAfter, MayStart, NoTaskIsAllowedFrom, saga_of_task, step_of_task}
use Rattle.saga_views.specs.Ready.{AddsOf, IsAdded, IsNotCut, IsReady, IsReadyUpTo, IsUpTo, ListsAll, place_of}
use Rattle.saga_views.specs.Limits.{enough_tasks}

-- ---- lists of all that passes

pub lists_same : (P Q : Task → Type 0) (ts : List Task) → ((t : Task) → P t → Q t) → ((t : Task) → Q t → P t) → ListsAll P ts → ListsAll Q ts
lists_same P Q ts into from lists = record {
  only = All-weaker P Q into ts lists.only;
  all = λ t q. lists.all t (from t q);
  ordered = lists.ordered;
}

lists_push : (P Q : Task → Type 0) (ts : List Task) (t : Task) → ListsAll P ts → Q t → ((u : Task) → P u → Q u) → ((u : Task) → Q u → P u ⊎ (u ≡ t))
    → ((u : Task) → P u → IsNotAfter u t × (u ≢ t)) → ListsAll Q (ts ++ t ∷ [])
lists_push P Q ts t lists q into from before = record {
  only = All-push Q ts t (All-weaker P Q into ts lists.only) q;
  all = λ u here. elim (from u here) [
    | inl p ↦ Contains-append_left ts (t ∷ []) u (lists.all u p)
    | inr same ↦ subst (λ (v : Task). Contains (ts ++ t ∷ []) v) (sym same) (Contains-push ts t)
  ];
  ordered = all_pairs_push (λ t u. IsNotAfter t u × (t ≢ u)) ts t lists.ordered
      (λ k d lt. before (get_or ts k d) (All-get_or P ts k d lt lists.only));
}

-- ---- places of tasks

place_same : (u t : Task) → saga_of_task u ≡ saga_of_task t → place_of u ≡ place_of t → u ≡ t
place_same (Run i s) (Run j r) saga place = let same : s ≡ r = omega (arith, place) in cc
place_same (Run i s) (Undo j r) saga place = absurd (omega (arith, place))
place_same (Run i s) (Plan j) saga place = absurd (omega (arith, place))
place_same (Undo i s) (Run j r) saga place = absurd (omega (arith, place))
place_same (Undo i s) (Undo j r) saga place = let same : s ≡ r = omega (arith, place) in cc
place_same (Undo i s) (Plan j) saga place = absurd (omega (arith, place))
place_same (Plan i) (Run j r) saga place = absurd (omega (arith, place))
place_same (Plan i) (Undo j r) saga place = absurd (omega (arith, place))
place_same (Plan i) (Plan j) saga place = cc

place_step : (u t : Task) → place_of u < place_of t → step_of_task u ≤ step_of_task t
place_step (Run i s) (Run j r) lt = omega (arith, lt)
place_step (Run i s) (Undo j r) lt = omega (arith, lt)
place_step (Run i s) (Plan j) lt = absurd (omega (arith, lt))
place_step (Undo i s) (Run j r) lt = omega (arith, lt)
place_step (Undo i s) (Undo j r) lt = omega (arith, lt)
place_step (Undo i s) (Plan j) lt = absurd (omega (arith, lt))
place_step (Plan i) t lt = omega arith

comes_before : (u t : Task) (i n : ℕ) → saga_of_task t ≡ i → place_of t ≡ n → IsUpTo i n u → IsNotAfter u t × (u ≢ t)
comes_before u t i n own here (inl less) = (inl (omega (arith, less, own)), λ same. let e = ap saga_of_task same in absurd (omega (arith, less, own, e)))
comes_before u t i n own here (inr (is, lt)) =
    (inr (is ∙ sym own, place_step u t (omega (arith, lt, here))), λ same. let e = ap place_of same in absurd (omega (arith, lt, here, e)))

up_to_more : (u t : Task) (i n : ℕ) → saga_of_task t ≡ i → place_of t ≡ n → IsUpTo i (n + 1) u → IsUpTo i n u ⊎ (u ≡ t)
up_to_more u t i n own here (inl less) = inl (inl less)
up_to_more u t i n own here (inr (is, lt)) = elim (cases_eq (place_of u) n) [
  | inl e ↦ inr (place_same u t (is ∙ sym own) (e ∙ sym here))
  | inr ne ↦ inl (inr (is, omega (arith, lt, ne)))
]

up_to_wider : (u : Task) (i n : ℕ) → IsUpTo i n u → IsUpTo i (n + 1) u
up_to_wider u i n (inl less) = inl less
up_to_wider u i n (inr (is, lt)) = inr (is, omega (arith, lt))

module _ (book : Book) (from : ℕ) where
  -- a place is passed
  pub passed : (i n : ℕ) (t : Task) (old new : List Task) → from ≤ i → saga_of_task t ≡ i → place_of t ≡ n → IsAdded book t old new
      → ListsAll (IsReadyUpTo book from i n) old → ListsAll (IsReadyUpTo book from i (n + 1)) new
  passed i n t old new far own here (inl (may, is)) lists = subst (λ (ts : List Task). ListsAll (IsReadyUpTo book from i (n + 1)) ts) (sym is)
      (lists_push (IsReadyUpTo book from i n) (IsReadyUpTo book from i (n + 1)) old t lists (may, omega (arith, far, own), inr (own, omega (arith, here)))
      (λ u p. (p.0, p.1, up_to_wider u i n p.2))
      (λ u q. elim (up_to_more u t i n own here q.2) [ inl below ↦ inl (q.0, q.1, below) | inr same ↦ inr same ])
      (λ u p. comes_before u t i n own here p.2))
  passed i n t old new far own here (inr (not, is)) lists = subst (λ (ts : List Task). ListsAll (IsReadyUpTo book from i (n + 1)) ts) (sym is)
      (lists_same (IsReadyUpTo book from i n) (IsReadyUpTo book from i (n + 1)) old
      (λ u p. (p.0, p.1, up_to_wider u i n p.2))
      (λ u q. elim (up_to_more u t i n own here q.2) [ inl below ↦ (q.0, q.1, below) | inr same ↦ absurd (not (subst (MayStart book) same q.0)) ]) lists)

  -- a saga begins, and ends behind its last place
  pub begins_saga : (i : ℕ) (ts : List Task) → ListsAll (IsReady book from (Some i)) ts → ListsAll (IsReadyUpTo book from i 0) ts
  begins_saga i ts lists = lists_same (IsReady book from (Some i)) (IsReadyUpTo book from i 0) ts
      (λ u p. (p.0, p.1, inl p.2))
      (λ u q. (q.0, q.1, elim q.2 [ inl less ↦ less | inr none ↦ absurd (omega (arith, none.1)) ])) lists

  place_few : (u : Task) (d : Contents) → definition_in book (saga_of_task u) ≡ Some d → MayStart book u → place_of u < 2 * length d.steps + 1
  place_few (Run i s) d at may = let is = (holds_at (definition_in book i) d _ at may).is_step in omega (arith, is)
  place_few (Undo i s) d at may = let is = (holds_at (definition_in book i) d _ at may).is_step in omega (arith, is)
  place_few (Plan i) d at may = omega arith

  pub ends_saga : (i : ℕ) (d : Contents) (ts : List Task) → definition_in book i ≡ Some d
      → ListsAll (IsReadyUpTo book from i (2 * length d.steps + 1)) ts → ListsAll (IsReady book from (Some (i + 1))) ts
  ends_saga i d ts at lists = lists_same (IsReadyUpTo book from i (2 * length d.steps + 1)) (IsReady book from (Some (i + 1))) ts
      (λ u p. (p.0, p.1, elim p.2 [ inl less ↦ omega (arith, less) | inr own ↦ omega (arith, own.0) ]))
      (λ u q. (
        q.0,
        q.1,
        elim (cases_eq (saga_of_task u) i) [
          | inl e ↦ inr (e, place_few u d (ap (λ (v : ℕ). definition_in book v) e ∙ at) q.0)
          | inr ne ↦ inl (let lt = q.2 in omega (arith, lt, ne))
        ],
      )) lists

  -- a saga that is not there has no task
  pub no_saga : (i : ℕ) (ts : List Task) → IsUnknown book i
      → ListsAll (IsReady book from (Some i)) ts → ListsAll (IsReady book from (Some (i + 1))) ts
  no_saga i ts unknown lists = lists_same (IsReady book from (Some i)) (IsReady book from (Some (i + 1))) ts
      (λ u p. (p.0, p.1, let lt = p.2 in omega (arith, lt)))
      (λ u q. (
        q.0,
        q.1,
        elim (cases_eq (saga_of_task u) i) [
          | inl e ↦ absurd (none_of u (subst (λ (v : ℕ). IsUnknown book v) (sym e) unknown) q.0)
          | inr ne ↦ let lt = q.2 in omega (arith, lt, ne)
        ],
      )) lists
    where
      none_at : (o : Option ℕ) (P : Contents → Type 0) → o ≡ None → IsSomeAnd (definition_at book.shelf o) P → ⊥
      none_at o P none holds = subst (λ (o : Option ℕ). IsSomeAnd (definition_at book.shelf o) P) none holds

      none_of : (u : Task) → IsUnknown book (saga_of_task u) → MayStart book u → ⊥
      none_of (Run i s) none may = none_at (opened_with (changes_in book i)) _ none may
      none_of (Undo i s) none may = none_at (opened_with (changes_in book i)) _ none may
      none_of (Plan i) none may = none_at (opened_with (changes_in book i)) _ none may

  -- ---- from one saga with a task to the next

  pub begins_none : ListsAll (IsReady book from (Some from)) []
  begins_none = record {
    only = All-nil (IsReady book from (Some from));
    all = λ t is. absurd (let lt = is.2 in omega (arith, lt, is.1));
    ordered = λ i j d before within. absurd (omega (arith, within));
  }

  pub up_to_next : (i : ℕ) (t : Task) (ts : List Task) → from ≤ i → IsFirstTaskFrom book i t
      → ListsAll (IsReady book from (Some i)) ts → ListsAll (IsReady book from (Some (saga_of_task t))) ts
  up_to_next i t ts far first lists = lists_same (IsReady book from (Some i)) (IsReady book from (Some (saga_of_task t))) ts
      (λ u p. (p.0, p.1, let lt = p.2 in omega (arith, lt, first.within)))
      (λ u q. (
        q.0,
        q.1,
        elim (cases_lt (saga_of_task u) i) [
          | inl less ↦ less
          | inr more ↦ absurd (elim (first.first u q.0 more) [ inl less ↦ (let lt = q.2 in omega (arith, lt, less)) | inr same ↦ (let lt = q.2 in omega (arith, lt, same.0)) ])
        ],
      )) lists

  pub up_to_all : (i : ℕ) (ts : List Task) → NoTaskIsAllowedFrom book i → ListsAll (IsReady book from (Some i)) ts → ListsAll (IsReady book from None) ts
  up_to_all i ts none lists = lists_same (IsReady book from (Some i)) (IsReady book from None) ts
      (λ u p. (p.0, p.1, tt))
      (λ u q. (q.0, q.1, elim (cases_lt (saga_of_task u) i) [ inl less ↦ less | inr more ↦ absurd (none u q.0 more) ])) lists

-- ---- no saga is cut

pub adds_none : (i : ℕ) (ts : List Task) → AddsOf i ts ts
adds_none i ts = ([], sym (append-nil ts), All-nil (λ t. saga_of_task t ≡ i))

pub adds_one : (book : Book) (i : ℕ) (t : Task) (ts old new : List Task) → saga_of_task t ≡ i
    → AddsOf i ts old → IsAdded book t old new → AddsOf i ts new
adds_one book i t ts old new own (added, is, all) (inl (may, grown)) =
    (added ++ t ∷ [], grown ∙ ap (λ (v : List Task). v ++ t ∷ []) is ∙ append_assoc ts added (t ∷ []), All-push (λ t. saga_of_task t ≡ i) added t all own)
adds_one book i t ts old new own (added, is, all) (inr (not, same)) = (added, same ∙ is, all)

pub few_not_cut : (ts : List Task) → length ts < enough_tasks → IsNotCut ts
few_not_cut ts few k d many within = absurd (omega (arith, few, many, within))

pub adds_not_cut : (i : ℕ) (old new : List Task) → length old < enough_tasks → AddsOf i old new → IsNotCut new
adds_not_cut i old new few (added, is, all) = subst IsNotCut (sym is) (λ k d many within.
    at k d (omega (arith, few, many)) within ∙ sym (at (enough_tasks - 1) d (omega (arith, few)) (omega (arith, many, within))))
  where
    at : (k : ℕ) (d : Task) → length old ≤ k → k < length (old ++ added) → saga_of_task (get_or (old ++ added) k d) ≡ i
    at k d far within =
        ap saga_of_task (get_or-append_right old added k d far)
        ∙ All-get_or (λ t. saga_of_task t ≡ i) added (k - length old) d (omega (arith, far, within, length-append old added)) all
