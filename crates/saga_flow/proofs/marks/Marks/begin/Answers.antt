use Rattle.std.proofs.Common.{arith}
use Rattle.saga_flow.proofs.MarkLemmas.{marks_within, marks_begin}
use Rattle.saga_flow.proofs.marks.Marks.begin.Goals as goal

pub index_mut-requires : goal.index_mut-requires
index_mut-requires c =
    let lt = marks_within c.self.inside.depths.items c.self.inside.by.items c.args.self.now c.args.node c.self.invariant c.self.view_is c.requires in
    omega (arith, lt.0, c.self.inside.depths.ok.0)

pub returns : goal.returns
returns c =
    rw (← c.self.view_is) (marks_begin c.self.inside.depths.items c.self.inside.by.items c.args.node c.self.invariant)
