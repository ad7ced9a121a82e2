-- The state of a saga.
use Rattle.std.specs.Prelude.{◌≡◌, ℕ, ◌++◌, Bool, true, false, List, [], ◌∷◌, Option, Some, None, codes, decimal, flat_map, length, map}
use Rattle.std.specs.List.{concat, range_with_len}
use Rattle.serde_json.specs.Written.{compact_text}
use Rattle.saga_case.specs.States.{word_of}
use Rattle.saga_case.specs.declared.answers.Answer.{Answer}
use Rattle.saga_cert.specs.Answers.{answer_form}
use Rattle.saga_history.specs.declared.tasks.Phase.{Phase}
use Rattle.saga_history.specs.Changes.{Change, opens, moves, starts_plan, drops_plan, adopts, aborts}
use Rattle.saga_history.specs.Rules.{HasPhase}
use Rattle.saga_history.specs.States.{state}
use Rattle.saga_history.specs.Tasks.{phase_word}
use Rattle.saga_history.specs.Turns.{aborted, in_goal}
use Rattle.saga_core.specs.Book.{Book}
use Rattle.saga_core.specs.Saga.{HasSaga, Saga}
use Rattle.saga_views.specs.Words.{listed, truth_text}

-- the answer that the saga adopted last, if it adopted one
abbrev pub last_answer : List Change → Option Answer
last_answer [] = None
last_answer (opens k ∷ l) = last_answer l
last_answer (moves s t ∷ l) = last_answer l
last_answer (starts_plan ∷ l) = last_answer l
last_answer (drops_plan ∷ l) = last_answer l
last_answer (adopts a ∷ l) = Some a
last_answer (aborts ∷ l) = last_answer l

abbrev pub answer_text : Option Answer → List ℕ
answer_text None = []
answer_text (Some a) = concat (codes ",\"answer\":" ∷ compact_text (answer_form a) ∷ [])

abbrev pub number_if : Bool → ℕ → List (List ℕ)
number_if true s = decimal s ∷ []
number_if false s = []

-- the numbers of those of the first steps that are in the goal
abbrev pub kept_below : List Change → ℕ → List (List ℕ)
kept_below l count = flat_map (λ s. number_if (in_goal l s) s) (range_with_len 0 count)

-- the words for the states of the first steps
abbrev pub states_below : List Change → ℕ → List (List ℕ)
states_below l count = map (λ s. word_of (state l s)) (range_with_len 0 count)

-- the parts of the text of a saga: whether it was aborted, the last answer and the kept steps; the words for the
-- states; and the whole text, with the name, the phase and the number in the middle
abbrev pub head_text : List ℕ → List ℕ → List ℕ → List ℕ
head_text aborted answer kept =
    concat (codes "{\"aborted\":" ∷ aborted ∷ answer ∷ codes ",\"kept\":[" ∷ kept ∷ codes "]" ∷ [])

abbrev pub tail_text : List ℕ → List ℕ
tail_text states = concat (codes ",\"states\":[\"" ∷ states ∷ codes "\"]}\n" ∷ [])

abbrev pub shown_text : List ℕ → List ℕ → List ℕ → ℕ → List ℕ → List ℕ
shown_text head name phase i tail =
    head ++ codes ",\"name\":\"" ++ name ++ codes "\",\"phase\":\"" ++ phase ++ codes "\",\"saga\":" ++ decimal i ++ tail

-- the text of a saga in that phase; a definition has at least one step
abbrev pub show_text : Saga → Phase → List ℕ
show_text saga phase =
    shown_text
    (head_text (truth_text (aborted saga.changes)) (answer_text (last_answer saga.changes))
    (listed (codes ",") (kept_below saga.changes (length saga.definition.steps)))) saga.definition.name (phase_word phase) saga.number
    (tail_text (listed (codes "\",\"") (states_below saga.changes (length saga.definition.steps))))

-- the text is that of the saga with this number, in its phase
pub record TellsSaga (book : Book) (i : ℕ) (text : List ℕ) : Type 0 where
  pub saga : Saga
  pub is : HasSaga book i saga
  pub phase : Phase
  pub has : HasPhase saga.definition saga.changes phase
  pub text_is : text ≡ show_text saga phase
