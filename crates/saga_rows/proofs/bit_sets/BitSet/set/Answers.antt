use Rattle.std.proofs.Common.{◌≡◌, ◌<◌, arith, length, drop, ap}
use Rattle.std.proofs.lemmas.List.{take_at}
use Rattle.saga_rows.proofs.BitSetLemmas.{marks_long}
use Rattle.saga_rows.proofs.bit_sets.BitSet.set.Goals as goal

pub put-self-inside-requires-clause-within : goal.put-self-inside-requires-clause-within
put-self-inside-requires-clause-within c =
    let lt : c.args.i < c.self.inside.len = rw (← c.self.view_is, marks_long c.self.inside.words.items c.self.inside.len) at c.requires in
    rw c.deref_mut.ensures.value (omega (arith, lt, c.self.invariant.room))

pub invariant_of-self : goal.invariant_of-self
invariant_of-self c =
    let lt : c.args.i < c.self.inside.len = rw (← c.self.view_is, marks_long c.self.inside.words.items c.self.inside.len) at c.requires in
    let same : length c.deref_mut.result.now ≡ length c.self.inside.words.items = ap length c.deref_mut.ensures.value in
    let whole = take_at c.put-self-inside.new.words (drop (length c.put-self-inside.new.words) c.self.inside.words.items) c.self.inside.words.len (omega (arith, same)) in
    let put = rw c.deref_mut.ensures.value at c.put-self-inside.ensures c.self.inside.len lt in
    rw whole (put c.self.invariant).0

pub returns : goal.returns
returns c =
    let lt : c.args.i < c.self.inside.len = rw (← c.self.view_is, marks_long c.self.inside.words.items c.self.inside.len) at c.requires in
    let same : length c.deref_mut.result.now ≡ length c.self.inside.words.items = ap length c.deref_mut.ensures.value in
    let whole = take_at c.put-self-inside.new.words (drop (length c.put-self-inside.new.words) c.self.inside.words.items) c.self.inside.words.len (omega (arith, same)) in
    let put = rw c.deref_mut.ensures.value at c.put-self-inside.ensures c.self.inside.len lt in
    rw (← c.self.view_is, whole) (put c.self.invariant).1
