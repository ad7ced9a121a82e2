-- The list of sagas from a number on, with the phase of each.
use Rattle.std.specs.Prelude.{◌≡◌, ℕ, ◌<◌, ◌≤◌, ◌&&◌, Bool, true, false, nat_le, List, [], ◌∷◌, Option, Some, None, codes, decimal, flat_map, length, slice_index_or}
use Rattle.std.specs.List.{concat, range_with_len}
use Rattle.saga_def.specs.Contents.{Contents}
use Rattle.saga_history.specs.declared.tasks.Phase.{Phase}
use Rattle.saga_history.specs.declared.tasks.Phase.TheVariants.{Going}
use Rattle.saga_core.specs.Book.{Book, definition_in, number, sagas_in}
use Rattle.saga_views.specs.Phases.{ArePhases, same_phase}
use Rattle.saga_views.specs.Ready.{more_text}
use Rattle.saga_history.specs.Tasks.{phase_word}
use Rattle.saga_views.specs.Words.{listed}
use Rattle.saga_views.specs.Limits.{most_sagas}

-- the filter selects every phase, or only this one
abbrev pub is_wanted : Option Phase → Phase → Bool
is_wanted None phase = true
is_wanted (Some wanted) phase = same_phase wanted phase

abbrev pub name_by : Option Contents → List ℕ
name_by None = []
name_by (Some d) = d.name

-- a saga: its name, its phase and its number
abbrev pub named_text : List ℕ → List ℕ → ℕ → List ℕ
named_text name phase i =
    concat (codes "{\"name\":\"" ∷ name ∷ codes "\",\"phase\":\"" ∷ phase ∷ codes "\",\"saga\":" ∷ decimal i ∷ codes "}" ∷ [])

abbrev pub saga_text : Book → Phase → ℕ → List ℕ
saga_text book phase i = named_text (name_by (definition_in book i)) (phase_word phase) i

-- the saga at an index: its number and its phase; whether the list has the saga, from these two; and its text
abbrev pub number_at : Book → ℕ → ℕ
number_at book k = number book.first book.stride k

abbrev pub phase_at : List Phase → ℕ → Phase
phase_at phases k = slice_index_or phases k Going

abbrev pub is_told : ℕ → Option Phase → ℕ → Phase → Bool
is_told from wanted i phase = nat_le from i && is_wanted wanted phase

abbrev pub is_told_at : Book → ℕ → Option Phase → List Phase → ℕ → Bool
is_told_at book from wanted phases k = is_told from wanted (number_at book k) (phase_at phases k)

abbrev pub text_at : Book → List Phase → ℕ → List ℕ
text_at book phases k = saga_text book (phase_at phases k) (number_at book k)

abbrev pub text_if : Bool → List ℕ → List (List ℕ)
text_if true text = text ∷ []
text_if false text = []

-- the texts of the sagas that the list has, of those at the first indices
abbrev pub told_up_to : Book → ℕ → Option Phase → List Phase → ℕ → List (List ℕ)
told_up_to book from wanted phases count =
    flat_map (λ k. text_if (is_told_at book from wanted phases k) (text_at book phases k)) (range_with_len 0 count)

-- `count` sagas were visited: all; or the list is full, and it would also have the saga at the next index
abbrev pub GoesTo : Book → ℕ → Option Phase → List Phase → ℕ → Option ℕ → Type 0
GoesTo book from wanted phases count None = count ≡ sagas_in book.history
GoesTo book from wanted phases count (Some m) =
    (count < sagas_in book.history) × (m ≡ number_at book count) × (is_told_at book from wanted phases count ≡ true)
    × (length (told_up_to book from wanted phases count) ≡ most_sagas)

-- the texts are those of the sagas of that phase from a number on, at most 100, with the number from which to continue
-- if there are more
pub record AreTold (book : Book) (from : ℕ) (wanted : Option Phase) (phases : List Phase) (texts : List (List ℕ)) (more : Option ℕ) : Type 0 where
  pub count : ℕ
  pub few : length texts ≤ most_sagas
  pub texts_are : texts ≡ told_up_to book from wanted phases count
  pub goes : GoesTo book from wanted phases count more

abbrev pub list_text : List (List ℕ) → Option ℕ → List ℕ
list_text texts more = concat (more_text more ∷ codes "\"sagas\":[" ∷ listed (codes ",") texts ∷ codes "]}\n" ∷ [])

-- the text is such a list
pub record TellsList (book : Book) (from : ℕ) (wanted : Option Phase) (text : List ℕ) : Type 0 where
  pub phases : List Phase
  pub phases_are : ArePhases book phases
  pub texts : List (List ℕ)
  pub more : Option ℕ
  pub told : AreTold book from wanted phases texts more
  pub text_is : text ≡ list_text texts more
