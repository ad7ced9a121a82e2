-- The parts of a drawing, one after another.
use Rattle.std.proofs.Common.{◌≡◌, ◌∙◌, ◌++◌, ℕ, List, append_assoc}
use Rattle.std.specs.Prelude.{Option, [], codes}
use mathlib.Core.Path.{fun_ext}
use Rattle.saga_def.specs.Contents.{Contents}
use Rattle.saga_case.specs.declared.states.StepState.{StepState}
use Rattle.saga_case.specs.declared.answers.Answer.{Answer}
use Rattle.saga_draw.specs.declared.marks.Marks.{Marks}
use Rattle.saga_draw.specs.Marks.{AreMarksOf, mark_in, mark_of, need_mark_in, need_mark_of}
use Rattle.saga_draw.specs.Drawings.{IsDrawing, edge_lines, head_text, node_lines}

pub drawn : (d : Contents) (states : Option (List StepState)) (answer : Option Answer) (marks : Marks) (start head nodes edges text : List ℕ)
    → AreMarksOf answer marks → start ≡ [] → head ≡ start ++ head_text d.name answer → nodes ≡ head ++ node_lines d.steps states (mark_in marks)
    → edges ≡ nodes ++ edge_lines d.steps d.needs (need_mark_in marks) → text ≡ edges ++ codes "}\n" → IsDrawing d states answer text
drawn d states answer marks start head nodes edges text are none first second third last =
    let steps : mark_in marks ≡ mark_of answer = fun_ext are.steps in
    let needs : need_mark_in marks ≡ need_mark_of answer = fun_ext are.needs in
    rw (last, third, second, first, none, steps, needs) (
    append_assoc (head_text d.name answer ++ node_lines d.steps states (mark_of answer)) (edge_lines d.steps d.needs (need_mark_of answer)) (codes "}\n")
    ∙ append_assoc (head_text d.name answer) (node_lines d.steps states (mark_of answer)) (edge_lines d.steps d.needs (need_mark_of answer) ++ codes "}\n")
    )
