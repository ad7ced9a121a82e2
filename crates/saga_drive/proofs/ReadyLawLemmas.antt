-- Which tasks may begin is told in one way.
use Rattle.std.proofs.Common.{◌≡◌, ◌≢◌, ◌∙◌, ◌⊎◌, inl, inr, ℕ, zero, suc, ◌-◌, ◌<◌, ◌≤◌, List, [], ◌∷◌, ◌++◌, Option, Some, None, ap, sym, subst, refl, arith, append-nil, length}
use Rattle.std.specs.Prelude.{AllPairs, Contains, slice_index_or}
use Rattle.std.proofs.lemmas.Bool.{cases_lt}
use Rattle.std.proofs.lemmas.List.{get_or_append_left, length-append}
use Rattle.saga_history.specs.declared.tasks.Task.{Task}
use Rattle.saga_history.specs.declared.tasks.Task.TheVariants.{Run, Undo, Plan}
use Rattle.saga_history.specs.declared.transitions.Transition.TheVariants.{StartRun, StartUndo}
use Rattle.saga_history.specs.Changes.{moves, starts_plan}
use Rattle.saga_history.specs.Rules.{SagaMay}
use Rattle.saga_core.specs.Book.{Book}
use Rattle.saga_core.specs.Tasks.{IsNotAfter, MayStart, saga_of_task, step_of_task}
use Rattle.saga_views.specs.Ready.{AreReady, IsBefore, IsReady, ListsAll, TellsReady, ready_text}
use Rattle.saga_views.specs.Limits.{enough_tasks}
use Rattle.saga_drive.proofs.KnownLemmas.{apart}

-- ---- two tasks that are allowed

module _ (book : Book) where
  run_or_undo : (i j s r : ℕ) → i ≡ j → s ≡ r → MayStart book (Run i s) → MayStart book (Undo j r) → ⊥
  run_or_undo i j s r saga step run undo =
      apart book i (λ d l. SagaMay d l (moves s StartRun)) (λ d l. SagaMay d l (moves s StartUndo)) (λ d l a b. absurd (cc (a.begins, b.begins))) run
      (subst (λ (k : ℕ). MayStart book (Undo i k)) (sym step) (subst (λ (k : ℕ). MayStart book (Undo k r)) (sym saga) undo))

  run_or_plan : (i j s : ℕ) → i ≡ j → MayStart book (Run i s) → MayStart book (Plan j) → ⊥
  run_or_plan i j s saga run plan =
      apart book i (λ d l. SagaMay d l (moves s StartRun)) (λ d l. SagaMay d l starts_plan) (λ d l a b. absurd (cc (a.condition.0, b.0))) run
      (subst (λ (k : ℕ). MayStart book (Plan k)) (sym saga) plan)

  undo_or_plan : (i j s : ℕ) → i ≡ j → MayStart book (Undo i s) → MayStart book (Plan j) → ⊥
  undo_or_plan i j s saga undo plan =
      apart book i (λ d l. SagaMay d l (moves s StartUndo)) (λ d l. SagaMay d l starts_plan) (λ d l a b. absurd (cc (a.condition.0, b.0))) undo
      (subst (λ (k : ℕ). MayStart book (Plan k)) (sym saga) plan)

  same_place : (t u : Task) → saga_of_task t ≡ saga_of_task u → step_of_task t ≡ step_of_task u → MayStart book t → MayStart book u → t ≡ u
  same_place (Run i s) (Run j r) saga step a b = ap (λ (k : ℕ). Run k s) saga ∙ ap (Run j) step
  same_place (Run i s) (Undo j r) saga step a b = absurd (run_or_undo i j s r saga step a b)
  same_place (Run i s) (Plan j) saga step a b = absurd (run_or_plan i j s saga a b)
  same_place (Undo i s) (Run j r) saga step a b = absurd (run_or_undo j i r s (sym saga) (sym step) b a)
  same_place (Undo i s) (Undo j r) saga step a b = ap (λ (k : ℕ). Undo k s) saga ∙ ap (Undo j) step
  same_place (Undo i s) (Plan j) saga step a b = absurd (undo_or_plan i j s saga a b)
  same_place (Plan i) (Run j r) saga step a b = absurd (run_or_plan j i r (sym saga) b a)
  same_place (Plan i) (Undo j r) saga step a b = absurd (undo_or_plan j i r (sym saga) b a)
  same_place (Plan i) (Plan j) saga step a b = ap Plan saga

  neither_after : (t u : Task) → MayStart book t → MayStart book u → IsNotAfter t u → IsNotAfter u t → t ≡ u
  neither_after t u a b (inl x) (inl y) = absurd (omega (arith, x, y))
  neither_after t u a b (inl x) (inr y) = absurd (omega (arith, x, y.0))
  neither_after t u a b (inr x) (inl y) = absurd (omega (arith, x.0, y))
  neither_after t u a b (inr x) (inr y) = same_place t u x.0 (omega (arith, x.1, y.1)) a b

-- ---- lists in that order

abbrev Comes : Task → Task → Type 0
Comes t u = IsNotAfter t u × (t ≢ u)

-- a task of a list is the first one, or comes behind it
first_or_later : (t : Task) (ts : List Task) (u : Task) → AllPairs Comes (t ∷ ts) → Contains (t ∷ ts) u → (t ≡ u) ⊎ Comes t u
first_or_later t ts u ordered (zero, lt, is) = inl is
first_or_later t ts u ordered (suc k, lt, is) = inr (subst (Comes t) is (ordered 0 (suc k) u (omega arith) lt))

abbrev Without : (Task → Type 0) → Task → Task → Type 0
Without P t u = P u × (u ≢ t)

rest_of : (P : Task → Type 0) (t : Task) (ts : List Task) → ListsAll P (t ∷ ts) → ListsAll (Without P t) ts
rest_of P t ts lists = record {
  only = λ k d lt. (lists.only (suc k) d (omega (arith, lt)), λ same. (lists.ordered 0 (suc k) d (omega arith) (omega (arith, lt))).1 (sym same));
  all = λ u is. behind u is (lists.all u is.0);
  ordered = λ i j d lt within. lists.ordered (suc i) (suc j) d (omega (arith, lt)) (omega (arith, within));
}
  where
    behind : (u : Task) → Without P t u → Contains (t ∷ ts) u → Contains ts u
    behind u is (zero, lt, same) = absurd (is.1 (sym same))
    behind u is (suc k, lt, same) = (k, omega (arith, lt), same)

none_in : (t : Task) → Contains [] t → ⊥
none_in t (k, lt, is) = omega (arith, lt)

-- one list begins with the other, if all that it has beside comes behind
begins_with : (P Q : Task → Type 0) → ((t u : Task) → Q t → Q u → IsNotAfter t u → IsNotAfter u t → t ≡ u) → ((t : Task) → P t → Q t)
    → ((u : Task) → Q u → P u ⊎ ((t : Task) → P t → IsNotAfter u t → ⊥)) → (ts us : List Task) → ListsAll P ts → ListsAll Q us → (rest : List Task) × (us ≡ ts ++ rest)
begins_with P Q one into out [] us a b = (us, refl)
begins_with P Q one into out (t ∷ ts) [] a b = absurd (none_in t (b.all t (into t (a.only 0 t (omega arith)))))
begins_with P Q one into out (t ∷ ts) (u ∷ us) a b =
    let more = begins_with (Without P t) (Without Q t) (λ x y p q. one x y p.0 q.0) (λ x p. (into x p.0, p.1)) (λ x q. beside x q (out x q.0)) ts us (rest_of P t ts a)
    (subst (λ (v : Task). ListsAll (Without Q v) us) (sym same) (rest_of Q u us b)) in
    (more.0, ap (λ (v : Task). v ∷ us) (sym same) ∙ ap (λ (l : List Task). t ∷ l) more.1)
  where
    has : P t
    has = a.only 0 t (omega arith)

    other : Q u
    other = b.only 0 u (omega arith)

    beside : (x : Task) → Without Q t x → P x ⊎ ((v : Task) → P v → IsNotAfter x v → ⊥) → Without P t x ⊎ ((v : Task) → Without P t v → IsNotAfter x v → ⊥)
    beside x q (inl p) = inl (p, q.1)
    beside x q (inr after) = inr (λ v p. after v p.0)

    at : (u ≡ t) ⊎ Comes u t → P u ⊎ ((v : Task) → P v → IsNotAfter u v → ⊥) → t ≡ u
    at (inl is) out = sym is
    at (inr before) (inr after) = absurd (after t has before.0)
    at (inr before) (inl p) = by (first_or_later t ts u a.ordered (a.all u p))
      where
        by : (t ≡ u) ⊎ Comes t u → t ≡ u
        by (inl is) = is
        by (inr behind) = one t u (into t has) other behind.0 before.0

    same : t ≡ u
    same = at (first_or_later u us t b.ordered (b.all t (into t has))) (out u other)

same_lists : (P : Task → Type 0) → ((t u : Task) → P t → P u → IsNotAfter t u → IsNotAfter u t → t ≡ u) → (ts us : List Task) → ListsAll P ts → ListsAll P us → ts ≡ us
same_lists P one ts us a b =
    let x = begins_with P P one (λ t p. p) (λ t p. inl p) ts us a b in
    let y = begins_with P P one (λ t p. p) (λ t p. inl p) us ts b a in
    sym (x.1 ∙ ap (λ (l : List Task). ts ++ l) (empty x.0 (omega (arith, ap length x.1, length-append ts x.0, ap length y.1, length-append us y.0))) ∙ append-nil ts)
  where
    empty : (l : List Task) → length l ≡ 0 → l ≡ []
    empty [] size = refl
    empty (t ∷ l) size = absurd (omega (arith, size))

-- ---- what is told

module _ (book : Book) (from : ℕ) where
  one_place : (more : Option ℕ) (t u : Task) → IsReady book from more t → IsReady book from more u → IsNotAfter t u → IsNotAfter u t → t ≡ u
  one_place more t u a b = neither_after book t u a.0 b.0

  -- it stops nowhere but at the first saga behind enough tasks
  stops : (ts us : List Task) (m : ℕ) (more : Option ℕ) → ((t : Task) → saga_of_task t ≤ m → IsBefore more t) → AreReady book from ts (Some m) → AreReady book from us more → ⊥
  stops ts us m more before a b = by (b.each.all w (a.rest.allowed, omega (arith, within, a.rest.saga), before w (omega (arith, a.rest.saga))))
    where
      w : Task
      w = a.rest.task

      enough : enough_tasks ≡ 100
      enough = refl

      some : enough_tasks - 1 < length ts
      some = omega (arith, a.rest.enough, enough)

      first : IsReady book from (Some m) (slice_index_or ts (enough_tasks - 1) w)
      first = a.each.only (enough_tasks - 1) w some

      within : from ≤ m
      within = omega (arith, first.1, first.2)

      beside : (u : Task) → IsReady book from more u → IsReady book from (Some m) u ⊎ ((t : Task) → IsReady book from (Some m) t → IsNotAfter u t → ⊥)
      beside u q = elim (cases_lt (saga_of_task u) m) [
        | inl lt ↦ inl (q.0, q.1, lt)
        | inr le ↦ inr (λ t p after. later u t le p.2 after)
      ]
        where
          later : (u t : Task) → m ≤ saga_of_task u → saga_of_task t < m → IsNotAfter u t → ⊥
          later u t le lt (inl x) = omega (arith, le, lt, x)
          later u t le lt (inr x) = omega (arith, le, lt, x.0)

      all : (rest : List Task) × (us ≡ ts ++ rest)
      all = begins_with (IsReady book from (Some m)) (IsReady book from more) (one_place more) (λ t p. (p.0, p.1, before t (omega (arith, p.2)))) beside ts us a.each b.each

      in_front : (k : ℕ) → k < length ts → slice_index_or us k w ≡ slice_index_or ts k w
      in_front k lt = ap (λ (l : List Task). slice_index_or l k w) all.1 ∙ get_or_append_left ts all.0 w k lt

      by : Contains us w → ⊥
      by (k, lt, is) = elim (cases_lt k (length ts)) [
        | inl less ↦ omega (arith, (a.each.only k w less).2, ap saga_of_task (sym (in_front k less) ∙ is), a.rest.saga)
        | inr le ↦ omega (arith, first.2, b.not_cut k w (omega (arith, le, a.rest.enough)) lt, ap saga_of_task is, ap saga_of_task (in_front (enough_tasks - 1) some), a.rest.saga)
      ]

  one_end : (ts us : List Task) (a b : Option ℕ) → AreReady book from ts a → AreReady book from us b → a ≡ b
  one_end ts us None None x y = refl
  one_end ts us (Some m) None x y = absurd (stops ts us m None (λ t le. tt) x y)
  one_end ts us None (Some n) x y = absurd (stops us ts n None (λ t le. tt) y x)
  one_end ts us (Some m) (Some n) x y = elim (cases_lt m n) [
    | inl lt ↦ absurd (stops ts us m (Some n) (λ t le. omega (arith, lt, le)) x y)
    | inr le ↦ elim (cases_lt n m) [
      | inl lt ↦ absurd (stops us ts n (Some m) (λ t le. omega (arith, lt, le)) y x)
      | inr also ↦ ap Some (omega (arith, le, also))
    ]
  ]

pub ready_one : (book : Book) (from : ℕ) (text other : List ℕ) → TellsReady book from text → TellsReady book from other → text ≡ other
ready_one book from text other a b =
    let more : a.more ≡ b.more = one_end book from a.tasks b.tasks a.more b.more a.ready b.ready in
    let ready : AreReady book from a.tasks b.more = subst (λ (m : Option ℕ). AreReady book from a.tasks m) more a.ready in
    let tasks : a.tasks ≡ b.tasks = same_lists (IsReady book from b.more) (one_place book from b.more) a.tasks b.tasks ready.each b.ready.each in
    a.text_is ∙ ap (ready_text book a.tasks) more ∙ ap (λ (l : List Task). ready_text book l b.more) tasks ∙ sym b.text_is
