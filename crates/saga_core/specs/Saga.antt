-- The current state of one saga of a book.
use Rattle.std.specs.Prelude.{◌≡◌, ℕ, List, Some}
use Rattle.saga_def.specs.Contents.{Contents}
use Rattle.saga_history.specs.Changes.{Change}
use Rattle.saga_core.specs.Book.{Book, changes_in, definition_in}

-- its number, its definition, and its changes, latest first
pub record Saga : Type 0 where
  pub number : ℕ
  pub definition : Contents
  pub changes : List Change

-- the book has a saga with this number, and this is its state
pub record HasSaga (b : Book) (i : ℕ) (saga : Saga) : Type 0 where
  pub numbered : saga.number ≡ i
  pub defined : definition_in b i ≡ Some saga.definition
  pub changed : saga.changes ≡ changes_in b i
