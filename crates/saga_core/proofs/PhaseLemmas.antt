-- Where the sagas of a book stand.
use Rattle.std.proofs.Common.{◌≡◌, ℕ, ◌<◌, ◌⊎◌, true, List, length, Some, None, refl, sym, ap, ◌∙◌, subst, inl, inr}
use Rattle.saga_def.specs.Contents.{Contents}
use Rattle.saga_history.specs.declared.tasks.Phase.{Phase}
use Rattle.saga_history.specs.declared.turns.Turn.{Turn}
use Rattle.saga_history.specs.declared.turns.Turn.TheVariants.{Going, Draining, Planning, Stuck}
use Rattle.saga_history.specs.Changes.{past, changes}
use Rattle.saga_history.specs.Rules.{definition, definition_at, HasPhase, IsEnded}
use Rattle.saga_history.specs.Turns.{turn}
use Rattle.saga_rows.specs.Row.{Row, RowIsEnded}
use Rattle.saga_rows.specs.Rows.{is_over, is_over_by, row_at}
use Rattle.saga_rows.specs.Tables.{unfinished_in}
use Rattle.saga_rows.specs.Follows.{RowHasPhase}
use Rattle.saga_rows.proofs.FollowLemmas as follow
use Rattle.saga_rows.proofs.RowLemmas as table
use Rattle.saga_core.specs.Book.{IsBook, number, book_of}
use Rattle.saga_core.specs.Journal.{Journal}
use Rattle.saga_core.specs.Tasks.{AllAreOver, StandsAt}
use Rattle.saga_core.proofs.NextLemmas.{row_or_none}
use Rattle.saga_core.proofs.SagaLemmas.{of_saga}

some_same : (c d : Contents) → Some c ≡ Some d → c ≡ d
some_same c d e = cc

-- a row is over where its saga is ended or stuck
over_cases : (row : Row) → is_over row ≡ true → RowIsEnded row ⊎ (row.turn ≡ Stuck)
over_cases row over = by_turn row.turn refl over
  where
    by_turn : (t : Turn) → row.turn ≡ t → is_over_by t (unfinished_in row.definition row.states row.goal) ≡ true → RowIsEnded row ⊎ (row.turn ≡ Stuck)
    by_turn Going is e = inl (record { going = is; finished = table.ended_from row.definition row.states row.goal (unfinished_in row.definition row.states row.goal) refl e })
    by_turn Draining is e = cc
    by_turn Planning is e = cc
    by_turn Stuck is e = inr is

over_ended : (row : Row) → RowIsEnded row → is_over row ≡ true
over_ended row ended = ap (λ (t : Turn). is_over_by t (unfinished_in row.definition row.states row.goal)) ended.going
    ∙ table.ended_into row.definition row.states row.goal (unfinished_in row.definition row.states row.goal) refl ended.finished

over_stuck : (row : Row) → row.turn ≡ Stuck → is_over row ≡ true
over_stuck row is = ap (λ (t : Turn). is_over_by t (unfinished_in row.definition row.states row.goal)) is

module _ (shelf : List Contents) (first stride : ℕ) (rows : List Row) (j : Journal) (b : IsBook shelf first stride rows j) where
  pub stands_at : (k : ℕ) (lt : k < length rows) (i : ℕ) → i ≡ number first stride k → (p : Phase) → RowHasPhase (row_at rows k) p → StandsAt (book_of shelf first stride j) i p
  stands_at k lt i is p has = of_saga shelf first stride rows j b k lt i is (λ d l. HasPhase d l p) (follow.phase_into shelf (row_at rows k) _ (b.follow k lt) p has)

  pub over_all : ((k : ℕ) → k < length rows → is_over (row_at rows k) ≡ true) → AllAreOver (book_of shelf first stride j)
  over_all over i d at = elim (row_or_none first stride i (length rows)) [
    | inl (k, lt, is) ↦
        let f = b.follow k lt in
        let same : (row_at rows k).definition ≡ d = some_same _ _ (sym f.defined ∙ ap (λ (v : ℕ). definition shelf (changes v (past j.history))) (sym is) ∙ at) in
        let own : IsEnded (row_at rows k).definition (changes (number first stride k) (past j.history)) ⊎ (turn (changes (number first stride k) (past j.history)) ≡ Stuck) = elim (over_cases (row_at rows k) (over k lt)) [
          | inl ended ↦ inl (follow.ended_into shelf (row_at rows k) _ f ended)
          | inr stuck ↦ inr (sym f.turn_is ∙ stuck)
        ] in
        subst (λ (v : ℕ). IsEnded d (changes v (past j.history)) ⊎ (turn (changes v (past j.history)) ≡ Stuck)) (sym is) (subst (λ (c : Contents). IsEnded c (changes (number first stride k) (past j.history)) ⊎ (turn (changes (number first stride k) (past j.history)) ≡ Stuck)) same own)
    | inr none ↦ absurd (let bad : None ≡ Some d = sym (ap (definition_at shelf) (b.others i none)) ∙ at in let worse : ⊥ = cc in worse)
  ]

  pub over_rows : AllAreOver (book_of shelf first stride j) → (k : ℕ) → k < length rows → is_over (row_at rows k) ≡ true
  over_rows over k lt =
      let f = b.follow k lt in
      elim (over (number first stride k) (row_at rows k).definition f.defined) [
        | inl ended ↦ over_ended (row_at rows k) (follow.ended_from shelf (row_at rows k) _ f ended)
        | inr stuck ↦ over_stuck (row_at rows k) (f.turn_is ∙ stuck)
      ]
