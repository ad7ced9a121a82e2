use Rattle.std.proofs.Common.{◌<◌, ◌∙◌, ◌/◌, ◌%◌, arith, sym, ap}
use Rattle.std.specs.Prelude.{◌==◌, false}
use Rattle.std.specs.Int.{bit_at}
use Rattle.std.proofs.lemmas.List.{get_or_read}
use Rattle.std.proofs.lemmas.Nat.Bits.{shr_and_one}
use Rattle.saga_rows.proofs.BitSetLemmas.{marks_long, marks_at}
use Rattle.saga_rows.proofs.bit_sets.BitSet.has.Goals as goal

pub index-requires : goal.index-requires
index-requires c =
    let lt : c.args.i < c.self.inside.len = rw (← c.self.view_is, marks_long c.self.inside.words.items c.self.inside.len) at c.requires in
    omega (arith, lt, c.self.invariant.room)

pub returns : goal.returns
returns c =
    let lt : c.args.i < c.self.inside.len = rw (← c.self.view_is, marks_long c.self.inside.words.items c.self.inside.len) at c.requires in
    let read = get_or_read c.self.inside.words.items (c.args.i / 64) c.index.result.now (omega (arith, lt, c.self.invariant.room)) c.index.ensures 0 in
    rw (← c.self.view_is) (ap (λ x. x == 1) (shr_and_one c.index.result.now (c.args.i % 64) ∙ ap (λ x. bit_at x (c.args.i % 64)) read) ∙ sym (marks_at c.self.inside.words.items c.self.inside.len c.args.i false lt))
