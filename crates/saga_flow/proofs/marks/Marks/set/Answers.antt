use Rattle.std.proofs.Common.{arith}
use Rattle.saga_flow.proofs.MarkLemmas.{marks_within, marks_put}
use Rattle.saga_flow.proofs.marks.Marks.set.Goals as goal

pub index_mut-requires : goal.index_mut-requires
index_mut-requires c =
    let lt = marks_within c.self.inside.depths.items c.self.inside.by.items c.args.self.now c.args.node c.self.invariant c.self.view_is c.requires.node in
    omega (arith, lt.0, c.self.inside.depths.ok.0)

pub index_mut-requires-2 : goal.index_mut-requires-2
index_mut-requires-2 c =
    let lt = marks_within c.self.inside.depths.items c.self.inside.by.items c.args.self.now c.args.node c.self.invariant c.self.view_is c.requires.node in
    omega (arith, lt.1, c.self.inside.by.ok.0)

pub returns : goal.returns
returns c =
    marks_put c.self.inside.depths.items c.self.inside.by.items c.args.self.now c.args.node c.args.depth c.args.by c.self.invariant c.self.view_is c.requires.below c.requires.depth
