-- The lines of a drawing.
use Rattle.std.specs.Prelude.{ℕ, List, [], ◌∷◌, Option, Some, None, nat_lt, codes, decimal, if◌then◌else◌}
use Rattle.std.specs.List.{concat}
use Rattle.saga_def.specs.declared.steps.Price.{Price}
use Rattle.saga_def.specs.declared.steps.Price.TheVariants.{Of, Never}
use Rattle.saga_def.specs.declared.steps.Step.{Step}
use Rattle.saga_case.specs.declared.states.StepState.{StepState}
use Rattle.saga_case.specs.declared.states.StepState.TheVariants as state
use Rattle.saga_case.specs.States.{word_of}
use Rattle.saga_draw.specs.declared.marks.Mark.{Mark}
use Rattle.saga_draw.specs.declared.marks.Mark.TheVariants.{Plain, Kept, Chained}

-- the shape, outline and color of a step with this state
abbrev pub look_of : Option StepState → List ℕ
look_of None = codes "shape=box"
look_of (Some state.Waiting) = codes "shape=box style=dashed"
look_of (Some state.Running) = codes "shape=parallelogram style=filled fillcolor=\"#cfe3f5\""
look_of (Some state.Committed) = codes "shape=box style=filled fillcolor=\"#b9dfbb\""
look_of (Some state.Void) = codes "shape=box style=\"filled,dashed\" fillcolor=\"#e0f0e0\""
look_of (Some state.Failed) = codes "shape=octagon style=filled fillcolor=\"#f0aaa4\""
look_of (Some state.Undoing) = codes "shape=trapezium style=filled fillcolor=\"#f2dfb0\""
look_of (Some state.Undone) = codes "shape=ellipse style=\"filled,dotted\" fillcolor=\"#eeeeee\""
look_of (Some state.Fixed) = codes "shape=hexagon style=filled fillcolor=\"#6fae75\""

-- a text for a kept step or need, and one for a step or need of the chain
abbrev pub mark_text : List ℕ → List ℕ → Mark → List ℕ
mark_text kept chained Plain = []
mark_text kept chained Kept = kept
mark_text kept chained Chained = chained

-- a kept step has a double outline, a step of the chain a thick one
abbrev pub outline_of : Mark → List ℕ
outline_of = mark_text (codes " peripheries=2") (codes " penwidth=4")

abbrev pub stroke_of : Mark → List ℕ
stroke_of = mark_text (codes " [penwidth=2]") (codes " [penwidth=4]")

abbrev pub mark_word : Mark → List ℕ
mark_word = mark_text (codes ", kept") (codes ", in the chain")

-- within a label a new line is written as a backslash and an n
abbrev pub state_text : Option StepState → List ℕ
state_text None = []
state_text (Some state) = concat (codes "\\n" ∷ word_of state ∷ [])

-- a cost that is not 0
abbrev pub price_text : List ℕ → Price → List ℕ
price_text word (Of amount) =
    if nat_lt 0 amount then concat (codes "\\n" ∷ word ∷ codes " " ∷ decimal amount ∷ []) else []
price_text word Never = concat (codes "\\n" ∷ word ∷ codes " never" ∷ [])

-- the name, the state, the mark, and the costs
abbrev pub label_text : Step → Option StepState → Mark → List ℕ
label_text step state mark =
    concat (step.name ∷ state_text state ∷ mark_word mark ∷ price_text (codes "run") step.run ∷ price_text (codes "undo") step.undo
    ∷ price_text (codes "skip") step.skip ∷ price_text (codes "keep") step.keep ∷ [])

abbrev pub node_line : Step → Option StepState → Mark → List ℕ
node_line step state mark =
    concat (codes "  \"" ∷ step.name ∷ codes "\" [" ∷ look_of state ∷ outline_of mark ∷ codes " label=\"" ∷ label_text step state mark
    ∷ codes "\"];\n" ∷ [])

-- from a step to the step that it needs
abbrev pub edge_line : List ℕ → List ℕ → Mark → List ℕ
edge_line step on mark =
    concat (codes "  \"" ∷ step ∷ codes "\" -> \"" ∷ on ∷ codes "\"" ∷ stroke_of mark ∷ codes ";\n" ∷ [])
