use Rattle.std.proofs.Common.{false}
use Rattle.saga_flow.proofs.MarkLemmas.{marks_none}
use Rattle.saga_flow.proofs.marks.Marks.none.Goals as goal

pub returns : goal.returns
returns c =
    let depths = c.in_ok-vec.ensures.items_if_clones_equal (λ y e. e) in
    let by = c.in_ok-vec-2.ensures.items_if_clones_equal (λ y e. e) in
    rw (depths, by) (marks_none c.args.nodes (record { arc = 0; forward = false }))
