-- The text of a drawing.
use Rattle.std.specs.Prelude.{ℕ, List, [], ◌∷◌, ◌++◌, Option, Some, None, length, slice_get, codes, decimal, All, ◌≡◌, ◌≢◌}
use Rattle.std.specs.List.{concat, flat_map, range_with_len}
use Rattle.saga_def.specs.Contents.{Contents}
use Rattle.saga_def.specs.declared.steps.Step.{Step}
use Rattle.saga_def.specs.declared.steps.Need.{Need}
use Rattle.saga_case.specs.declared.states.StepState.{StepState}
use Rattle.saga_case.specs.declared.answers.Answer.{Answer}
use Rattle.saga_case.specs.declared.answers.Answer.TheVariants as answer
use Rattle.saga_draw.specs.declared.marks.Mark.{Mark}
use Rattle.saga_draw.specs.Marks.{mark_of, need_mark_of}
use Rattle.saga_draw.specs.Lines.{node_line, edge_line}

-- the state of a step, if states are given
abbrev pub state_in : Option (List StepState) → ℕ → Option StepState
state_in None s = None
state_in (Some states) s = slice_get states s

abbrev pub name_of : Option Step → List ℕ
name_of None = []
name_of (Some step) = step.name

-- the description of an answer
abbrev pub cost_text : ℕ → List ℕ
cost_text cost = concat (codes ": plan of cost " ∷ decimal cost ∷ codes "\\ndouble outline: kept" ∷ [])

abbrev pub answer_text : Answer → List ℕ
answer_text (answer.Plan plan) = cost_text plan.cost
answer_text (answer.Blocked chain) = codes ": blocked\\nthick outline: the chain that shows it"

abbrev pub title_text : List ℕ → Option Answer → List ℕ
title_text name None = name
title_text name (Some answer) = name ++ answer_text answer

abbrev pub head_text : List ℕ → Option Answer → List ℕ
head_text name answer =
    concat (codes "digraph \"" ∷ name ∷ codes "\" {\n  graph [rankdir=RL fontname=\"Helvetica\" label=\""
    ∷ title_text name answer ∷ codes "\"];\n  node [fontname=\"Helvetica\" fontsize=12];\n" ∷ [])

-- the line of the step with a number
abbrev pub node_at : Option Step → Option StepState → Mark → List ℕ
node_at None state mark = []
node_at (Some step) state mark = node_line step state mark

-- a line for each step, in order
abbrev pub node_lines : List Step → Option (List StepState) → (ℕ → Mark) → List ℕ
node_lines steps states mark =
    flat_map (λ s. node_at (slice_get steps s) (state_in states s) (mark s)) (range_with_len 0 (length steps))

-- the line of a need
abbrev pub edge_at : List Step → (Need → Mark) → Need → List ℕ
edge_at steps mark n = edge_line (name_of (slice_get steps n.step)) (name_of (slice_get steps n.on)) (mark n)

-- a line for each need, in order
abbrev pub edge_lines : List Step → List Need → (Need → Mark) → List ℕ
edge_lines steps needs mark = flat_map (edge_at steps mark) needs

-- the text for a definition, the states of a case if they are given, and an answer if it is given
abbrev pub drawing : Contents → Option (List StepState) → Option Answer → List ℕ
drawing d states answer =
    head_text d.name answer ++ (node_lines d.steps states (mark_of answer) ++ (edge_lines d.steps d.needs (need_mark_of answer) ++ codes "}\n"))

abbrev pub IsDrawing : Contents → Option (List StepState) → Option Answer → List ℕ → Type 0
IsDrawing d states answer text = text ≡ drawing d states answer

-- the text is unchanged between quotes: no byte of it is a quote or a backslash
abbrev pub NeedsNoEscape : List ℕ → Type 0
NeedsNoEscape text = All (λ byte. (byte ≢ 34) × (byte ≢ 92)) text

-- the names of the saga and of its steps
pub record HasPlainNames (d : Contents) : Type 0 where
  pub saga : NeedsNoEscape d.name
  pub steps : All (λ (s : Step). NeedsNoEscape s.name) d.steps
