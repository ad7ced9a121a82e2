use Rattle.std.proofs.Common.{◌∙◌, ap, map}
use Rattle.std.proofs.lemmas.Result.{IfOk-weaker}
use Rattle.std.specs.Prelude.{is_some, ◌==◌, not}
use Rattle.saga_flow.specs.Marks.{no_depth}
use Rattle.saga_flow.proofs.MarkLemmas.{marks_flags}
use Rattle.saga_flow.proofs.marks.Marks.all.Goals as goal

pub returns : goal.returns
returns c =
    IfOk-weaker c.are_marks.result _ _ (λ r is.
    is ∙ ap (map (λ d. not (d == no_depth))) c.as_slice.ensures.value ∙ marks_flags c.self.inside.depths.items c.self.inside.by.items c.self.invariant ∙ ap (map is_some) c.self.view_is) c.are_marks.ensures
