use Rattle.std.proofs.Common.{sym, arith}
use Rattle.saga_flow.proofs.MarkLemmas.{marks_within, marks_read, by_none, by_some}
use Rattle.saga_flow.proofs.marks.Marks.by.Goals as goal

pub index-depth-requires : goal.index-depth-requires
index-depth-requires c =
    let lt = marks_within c.self.inside.depths.items c.self.inside.by.items c.args.self.now c.args.node c.self.invariant c.self.view_is c.requires in
    omega (arith, lt.0, c.self.inside.depths.ok.0)

pub index-requires : goal.index-requires
index-requires c =
    let lt = marks_within c.self.inside.depths.items c.self.inside.by.items c.args.self.now c.args.node c.self.invariant c.self.view_is c.requires in
    omega (arith, lt.1, c.self.inside.by.ok.0)

pub returns-then-depth : goal.returns-then-depth
returns-then-depth c =
    let read = marks_read c.self.inside.depths.items c.self.inside.by.items c.args.self.now c.args.node c.index-depth.result.now c.self.invariant c.self.view_is c.requires c.index-depth.ensures in
    sym (by_none c.args.self.now c.self.inside.by.items c.args.node c.index-depth.result.now read c.if-depth.either)

pub returns-else-depth : goal.returns-else-depth
returns-else-depth c =
    let read = marks_read c.self.inside.depths.items c.self.inside.by.items c.args.self.now c.args.node c.index-depth.result.now c.self.invariant c.self.view_is c.requires c.index-depth.ensures in
    sym (by_some c.args.self.now c.self.inside.by.items c.args.node c.index-depth.result.now c.index.result.now read (λ is. omega (arith, is, c.if-depth.false)) (λ is. omega (arith, is, c.if-depth.false)) c.index.ensures)
