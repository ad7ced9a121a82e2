-- What is legal over a shelf is legal over a longer one: openings are by place.
use Rattle.std.proofs.Common.{◌<◌, ℕ, zero, suc, Option, Some, None, List, [], ◌∷◌, ◌++◌, IsSomeAnd, arith, length, length-append}
use Rattle.std.specs.Prelude.{slice_get}
use Rattle.saga_def.specs.Contents.{Contents}
use Rattle.saga_history.specs.declared.events.Event.{Event}
use Rattle.saga_history.specs.Changes.{Change, aborts, adopts, change_of, changes, drops_plan, moves, opens, past, saga_of, starts_plan}
use Rattle.saga_history.specs.Rules.{IsAllowedChange, IsLegal, SagaMay, definition_at}
use Rattle.saga_history.specs.Turns.{opened_with}
use Rattle.saga_core.specs.Book.{Book}
use Rattle.saga_logged.specs.BookLog.{IsBookLog}
use Rattle.saga_serve.specs.Shelves.{longer}

some_longer : (P : Contents → Type 0) (shelf more : List Contents) (k : ℕ) → IsSomeAnd (slice_get shelf k) P → IsSomeAnd (slice_get (shelf ++ more) k) P
some_longer P [] more k is = elim is [ ]
some_longer P (d ∷ shelf) more zero is = is
some_longer P (d ∷ shelf) more (suc k) is = some_longer P shelf more k is

defined_longer : (P : Contents → Type 0) (shelf more : List Contents) (place : Option ℕ) → IsSomeAnd (definition_at shelf place) P
    → IsSomeAnd (definition_at (shelf ++ more) place) P
defined_longer P shelf more None is = elim is [ ]
defined_longer P shelf more (Some k) is = some_longer P shelf more k is

allowed_longer : (shelf more : List Contents) (l : List Change) (c : Change) → IsAllowedChange shelf l c → IsAllowedChange (shelf ++ more) l c
allowed_longer shelf more l (opens k) is = (is.0, (let e : k < length (shelf ++ more) = omega (arith, is.1, length-append shelf more) in e))
allowed_longer shelf more l (moves s t) is = defined_longer (λ d. SagaMay d l (moves s t)) shelf more (opened_with l) is
allowed_longer shelf more l starts_plan is = defined_longer (λ d. SagaMay d l starts_plan) shelf more (opened_with l) is
allowed_longer shelf more l drops_plan is = defined_longer (λ d. SagaMay d l drops_plan) shelf more (opened_with l) is
allowed_longer shelf more l (adopts a) is = defined_longer (λ d. SagaMay d l (adopts a)) shelf more (opened_with l) is
allowed_longer shelf more l aborts is = defined_longer (λ d. SagaMay d l aborts) shelf more (opened_with l) is

pub legal_longer : (shelf more : List Contents) (h : List Event) → IsLegal shelf h → IsLegal (shelf ++ more) h
legal_longer shelf more [] legal = tt
legal_longer shelf more (e ∷ h) legal =
    (allowed_longer shelf more (changes (saga_of e) h) (change_of e) legal.0, legal_longer shelf more h legal.1)

pub log_longer : (book : Book) (put : Contents) (text : List ℕ) → IsBookLog book text → IsBookLog (longer book put) text
log_longer book put text log = record {
  lines = log.lines;
  headed = log.headed;
  whole = log.whole;
  read = log.read;
  settled = log.settled;
  legal = legal_longer book.shelf (put ∷ []) (past book.history) log.legal;
}
