-- The report of histories.
use Rattle.std.specs.Prelude.{◌≡◌, ℕ, ◌+◌, List, [], ◌∷◌, ◌++◌, Bool, true, false, length, map, flat_map, count_by, sum_by, slice_index_or}
use Rattle.std.specs.List.Sorted.{IsNonDecreasingBy, IsPermutation, IsStableByKey}
use Rattle.std.specs.Ordering.{nat_cmp}
use Rattle.saga_def.specs.Contents.{Contents}
use Rattle.saga_history.specs.declared.events.Event.{Event}
use Rattle.saga_history.specs.declared.tasks.Phase.{Phase}
use Rattle.saga_history.specs.declared.tasks.Phase.TheVariants as phase
use Rattle.saga_history.specs.Changes.{Change, changes, past}
use Rattle.saga_history.specs.Rules.{HasPhase}
use Rattle.saga_report.specs.declared.sagas.Entry.{Entry}
use Rattle.saga_report.specs.Opened.{opened_sagas}
use Rattle.saga_report.specs.Lines.{Story, story_of, contents_of, phase_of, saga_text, total_line}

-- a saga of the history at an index
abbrev pub entry : ℕ → ℕ → Entry
entry place number = record { number = number; place = place }

-- the sagas that histories open, history by history; the first history has this index
abbrev pub entries_from : ℕ → List (List Event) → List Entry
entries_from place [] = []
entries_from place (h ∷ histories) = map (entry place) (opened_sagas h) ++ entries_from (place + 1) histories

-- in ascending order of their numbers; sagas with the same number are in the order of their histories
pub record AreInOrder (histories : List (List Event)) (entries : List Entry) : Type 0 where
  pub all : IsPermutation (entries_from 0 histories) entries
  pub ascending : IsNonDecreasingBy (λ (e : Entry). e.number) entries
  pub stable : IsStableByKey (λ (e : Entry). e.number) nat_cmp (entries_from 0 histories) entries

-- the changes of a saga, last first, and its data
abbrev pub changes_at : List (List Event) → Entry → List Change
changes_at histories e = changes e.number (past (slice_index_or histories e.place []))

abbrev pub story_at : List (List Event) → Entry → Story
story_at histories e = story_of (changes_at histories e)

abbrev pub phase_at : List Contents → List (List Event) → Entry → Phase
phase_at shelf histories e = phase_of (contents_of shelf (story_at histories e)) (story_at histories e)

abbrev pub text_at : List Contents → List (List Event) → Entry → List ℕ
text_at shelf histories e = saga_text (contents_of shelf (story_at histories e)) e.number (story_at histories e)

abbrev pub is_ended : Phase → Bool
is_ended phase.Ended = true
is_ended _ = false

abbrev pub is_stuck : Phase → Bool
is_stuck phase.Stuck = true
is_stuck _ = false

-- the text of these sagas, and the last line
abbrev pub text_of : List Contents → List (List Event) → List Entry → List ℕ
text_of shelf histories entries =
    flat_map (text_at shelf histories) entries
    ++ total_line (length entries) (count_by (λ e. is_ended (phase_at shelf histories e)) entries)
    (count_by (λ e. is_stuck (phase_at shelf histories e)) entries) (sum_by length histories)

-- the phase of each saga in the report is its phase
abbrev pub PhasesAreTold : List Contents → List (List Event) → Type 0
PhasesAreTold shelf histories =
    (e : Entry) → HasPhase (contents_of shelf (story_at histories e)) (changes_at histories e) (phase_at shelf histories e)

-- the report: the sagas in order, and the last line
pub record IsReport (shelf : List Contents) (histories : List (List Event)) (text : List ℕ) : Type 0 where
  pub entries : List Entry
  pub in_order : AreInOrder histories entries
  pub phases : PhasesAreTold shelf histories
  pub text_is : text ≡ text_of shelf histories entries

-- the report, with the number of stuck sagas in it
pub record IsCountedReport (shelf : List Contents) (histories : List (List Event)) (text : List ℕ) (stuck : ℕ) : Type 0 where
  pub entries : List Entry
  pub in_order : AreInOrder histories entries
  pub phases : PhasesAreTold shelf histories
  pub text_is : text ≡ text_of shelf histories entries
  pub stuck_are : stuck ≡ count_by (λ e. is_stuck (phase_at shelf histories e)) entries
