use Rattle.std.proofs.Common.{length, ap, arith}
use Rattle.saga_flow.proofs.MarkLemmas.{marks_length}
use Rattle.saga_flow.specs.Marks.{far_of}
use Rattle.saga_flow.proofs.marks.Marks.far.Goals as goal

pub returns-then-depth : goal.returns-then-depth
returns-then-depth c =
    let sized = marks_length c.self.inside.depths.items c.self.inside.by.items c.self.invariant in
    omega (arith, sized, ap length c.self.view_is, c.len.ensures, c.self.inside.depths.ok.0, ap (far_of (length c.args.self.now)) (c.read-depth.ensures.none c.if-depth.true))
