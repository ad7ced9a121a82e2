use Rattle.std.proofs.Common.{arith}
use Rattle.saga_flow.proofs.MarkLemmas.{marks_within, marks_read, read_depth}
use Rattle.saga_flow.proofs.marks.Marks.read.Goals as goal

pub index-requires : goal.index-requires
index-requires c =
    let lt = marks_within c.self.inside.depths.items c.self.inside.by.items c.args.self.now c.args.node c.self.invariant c.self.view_is c.requires in
    omega (arith, lt.0, c.self.inside.depths.ok.0)

pub returns : goal.returns
returns c =
    read_depth c.args.self.now c.self.inside.by.items c.args.node c.index.result.now (marks_read c.self.inside.depths.items c.self.inside.by.items c.args.self.now c.args.node c.index.result.now c.self.invariant c.self.view_is c.requires c.index.ensures)
