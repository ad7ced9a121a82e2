-- A book, one event further that concerns a saga as a whole.
use Rattle.std.proofs.Common.{◌≡◌, ◌≢◌, ℕ, ◌+◌, ◌-◌, ◌<◌, ◌≤◌, List, [], ◌∷◌, ◌++◌, length, refl, sym, ap, ◌∙◌, subst, arith, set}
use Rattle.std.proofs.lemmas.List.Sums.{get_or-le-sum_by}
use Rattle.saga_def.specs.Contents.{Contents}
use Rattle.saga_case.specs.declared.answers.Answer.{Answer}
use Rattle.saga_case.specs.declared.answers.Answer.TheVariants as answer
use Rattle.saga_case.specs.Right.{IsRight}
use Rattle.saga_case.specs.Situation.{Situation}
use Rattle.saga_case.specs.Terms.{terms_of}
use Rattle.saga_history.specs.declared.events.Event.TheVariants as event
use Rattle.saga_history.specs.declared.turns.Turn.{Turn}
use Rattle.saga_history.specs.declared.turns.Turn.TheVariants.{Going, Draining, Planning, Stuck}
use Rattle.saga_history.specs.Changes.{Change, past, changes, starts_plan, drops_plan, adopts, aborts}
use Rattle.saga_history.specs.Rules.{definition, IsAllowed, SagaMay}
use Rattle.saga_history.specs.Turns.{present_case, turn, turn_after_abort}
use Rattle.saga_rows.specs.Row.{FitsIn, MayPlan, Row, row_aborting, row_adopting, row_turning}
use Rattle.saga_rows.specs.Rows.{no_row, row_at}
use Rattle.saga_rows.specs.Follows.{RowMayAbort, row_case}
use Rattle.saga_rows.proofs.FollowLemmas.{abort_into, fits, follows_abort, follows_adopt, follows_drop, follows_plan, plan_into, present_same}
use Rattle.saga_core.specs.Book.{IsBook, busy_in, number, plans_in, plans_in_turn, book_of}
use Rattle.saga_core.specs.Journal.{Journal}
use Rattle.saga_core.specs.Refusals.{IsPresentCase, OfSaga}
use Rattle.saga_core.proofs.BookLemmas.{holds_from, keeps_book}

no_plan_adopting : (row : Row) (a : Answer) → plans_in (row_adopting row a) ≡ 0
no_plan_adopting row (answer.Plan plan) = refl
no_plan_adopting row (answer.Blocked chain) = refl

busy_adopting : (row : Row) (a : Answer) → busy_in (row_adopting row a) ≡ busy_in row
busy_adopting row (answer.Plan plan) = refl
busy_adopting row (answer.Blocked chain) = refl

plan_abort : (t : Turn) → plans_in_turn (turn_after_abort t) ≤ plans_in_turn t
plan_abort Going = omega arith
plan_abort Draining = omega arith
plan_abort Planning = omega arith
plan_abort Stuck = omega arith

module _ (shelf : List Contents) (first stride : ℕ) (rows : List Row) (j : Journal) (b : IsBook shelf first stride rows j) (k : ℕ) (lt : k < length rows) (i : ℕ) (is : i ≡ number first stride k) where
  -- what holds of the definition and the changes of the row's saga holds of the saga of that number
  pub of_saga : (P : Contents → List Change → Type 0) → P (row_at rows k).definition (changes (number first stride k) (past j.history)) → OfSaga (book_of shelf first stride j) i P
  of_saga P p = subst (λ (v : ℕ). OfSaga (book_of shelf first stride j) v P) (sym is)
      (holds_from (definition shelf (changes (number first stride k) (past j.history))) (row_at rows k).definition (λ d. P d (changes (number first stride k) (past j.history))) (b.follow k lt).defined p)

  pub plan_book : MayPlan (row_at rows k) → IsBook shelf first stride (set rows k (row_turning (row_at rows k) Planning)) (record { history = j.history ++ event.StartPlan i ∷ []; owed = j.owed; plans = j.plans + 1 })
  plan_book may =
      let f = b.follow k lt in
      let same : busy_in (row_turning (row_at rows k) Planning) ≡ busy_in (row_at rows k) = refl in
      let one : plans_in (row_turning (row_at rows k) Planning) ≡ 1 = refl in
      keeps_book shelf first stride rows j b k (event.StartPlan i) (row_turning (row_at rows k) Planning) j.owed (j.plans + 1) lt is refl
      (of_saga (λ d l. SagaMay d l starts_plan) (plan_into shelf (row_at rows k) _ f may)) (follows_plan shelf (row_at rows k) _ f) (omega (arith, same)) (omega (arith, one))

  pub plan_owed : (row_at rows k).turn ≡ Planning → 0 < j.plans
  plan_owed planning = let one : plans_in (row_at rows k) ≡ 1 = ap plans_in_turn planning in omega (arith, one, get_or-le-sum_by plans_in rows k no_row lt, b.room_for_plans)

  pub planning_from : (row_at rows k).turn ≡ Planning → turn (changes (number first stride k) (past j.history)) ≡ Planning
  planning_from planning = sym (b.follow k lt).turn_is ∙ planning

  pub drop_allowed : (row_at rows k).turn ≡ Planning → IsAllowed shelf (past j.history) (event.DropPlan i)
  drop_allowed planning = of_saga (λ d l. SagaMay d l drops_plan) (planning_from planning)

  pub drop_book : (row_at rows k).turn ≡ Planning → IsBook shelf first stride (set rows k (row_turning (row_at rows k) Draining)) (record { history = j.history ++ event.DropPlan i ∷ []; owed = j.owed; plans = j.plans - 1 })
  drop_book planning =
      let same : busy_in (row_turning (row_at rows k) Draining) ≡ busy_in (row_at rows k) = refl in
      let none : plans_in (row_turning (row_at rows k) Draining) ≡ 0 = refl in
      let one : plans_in (row_at rows k) ≡ 1 = ap plans_in_turn planning in
      keeps_book shelf first stride rows j b k (event.DropPlan i) (row_turning (row_at rows k) Draining) j.owed (j.plans - 1) lt is refl
      (drop_allowed planning) (follows_drop shelf (row_at rows k) _ (b.follow k lt)) (omega (arith, same)) (omega (arith, one, none, plan_owed planning))

  right_here : (a : Answer) → IsRight (terms_of (row_case (row_at rows k))) a → IsRight (terms_of (present_case (row_at rows k).definition (changes (number first stride k) (past j.history)))) a
  right_here a right = subst (λ (c : Situation). IsRight (terms_of c) a) (sym (present_same shelf (row_at rows k) _ (b.follow k lt))) right

  pub adopt_fits : (a : Answer) → IsRight (terms_of (row_case (row_at rows k))) a → FitsIn (row_at rows k) a
  adopt_fits a right = fits shelf (row_at rows k) _ (b.follow k lt) a (right_here a right)

  pub adopt_allowed : (a : Answer) → (row_at rows k).turn ≡ Planning → IsRight (terms_of (row_case (row_at rows k))) a → IsAllowed shelf (past j.history) (event.Adopt i a)
  adopt_allowed a planning right = of_saga (λ d l. SagaMay d l (adopts a)) (planning_from planning, right_here a right)

  pub adopt_book : (a : Answer) → (row_at rows k).turn ≡ Planning → IsRight (terms_of (row_case (row_at rows k))) a → IsBook shelf first stride (set rows k (row_adopting (row_at rows k) a)) (record { history = j.history ++ event.Adopt i a ∷ []; owed = j.owed; plans = j.plans - 1 })
  adopt_book a planning right =
      let one : plans_in (row_at rows k) ≡ 1 = ap plans_in_turn planning in
      keeps_book shelf first stride rows j b k (event.Adopt i a) (row_adopting (row_at rows k) a) j.owed (j.plans - 1) lt is refl
      (adopt_allowed a planning right) (follows_adopt shelf (row_at rows k) _ (b.follow k lt) a (adopt_fits a right))
      (omega (arith, busy_adopting (row_at rows k) a)) (omega (arith, one, no_plan_adopting (row_at rows k) a, plan_owed planning))

  pub present_here : (case : Situation) → case ≡ row_case (row_at rows k) → IsPresentCase (book_of shelf first stride j) i case
  present_here case same = of_saga (λ d l. case ≡ present_case d l) (same ∙ sym (present_same shelf (row_at rows k) _ (b.follow k lt)))

  pub stale_here : (case : Situation) → (row_at rows k).turn ≡ Planning → (case ≡ row_case (row_at rows k) → ⊥) → OfSaga (book_of shelf first stride j) i (λ d l. (turn l ≡ Planning) × (case ≢ present_case d l))
  stale_here case planning other = of_saga (λ d l. (turn l ≡ Planning) × (case ≢ present_case d l))
      (planning_from planning, λ same. other (same ∙ present_same shelf (row_at rows k) _ (b.follow k lt)))

  pub not_planning : ((row_at rows k).turn ≡ Planning → ⊥) → OfSaga (book_of shelf first stride j) i (λ d l. turn l ≢ Planning)
  not_planning other = of_saga (λ d l. turn l ≢ Planning) (λ planning. other ((b.follow k lt).turn_is ∙ planning))

  pub abort_allowed : RowMayAbort (row_at rows k) → IsAllowed shelf (past j.history) (event.Abort i)
  abort_allowed may = of_saga (λ d l. SagaMay d l aborts) (abort_into shelf (row_at rows k) _ (b.follow k lt) may)

  pub abort_book : RowMayAbort (row_at rows k) → IsBook shelf first stride (set rows k (row_aborting (row_at rows k))) (record { history = j.history ++ event.Abort i ∷ []; owed = j.owed; plans = j.plans })
  abort_book may =
      let same : busy_in (row_aborting (row_at rows k)) ≡ busy_in (row_at rows k) = refl in
      keeps_book shelf first stride rows j b k (event.Abort i) (row_aborting (row_at rows k)) j.owed j.plans lt is refl
      (abort_allowed may) (follows_abort shelf (row_at rows k) _ (b.follow k lt)) (omega (arith, same)) (omega (arith, plan_abort (row_at rows k).turn))
