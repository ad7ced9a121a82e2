-- Each row is filled by the step's list, and then each need is there.
use Rattle.std.proofs.Common.{ℕ, ◌≡◌, ◌≤◌, ◌*◌, List, length, drop, arith}
use Rattle.std.proofs.lemmas.List.{take_at}
use Rattle.saga_closure.specs.Bits.{words_for}
use Rattle.saga_closure.specs.Nets.{terms_in}
use Rattle.saga_closure.proofs.RowLemmas.{filled_more, filled_rows}
use Rattle.saga_closure.proofs.rows.empty_rows.Goals as goal

pub loop-v-preserved : goal.loop-v-preserved
loop-v-preserved c =
    let new : List ℕ = c.add_steps.new.words in
    let whole = take_at c.add_steps.new.words (drop (length c.add_steps.new.words) c.loop-v.words.items) c.loop-v.words.len (omega (arith, c.add_steps.ensures.sized, c.as_mut_slice.ensures.len)) in
    rw whole (filled_more (terms_in c.args.net.now) c.div_ceil-width.result c.loop-v.words.items c.add_steps.new.words c.loop-v.v c.links_from.result.0.now c.links_from.result.1.now c.loop-v.invariant c.links_from.ensures (rw c.as_mut_slice.ensures.value at c.add_steps.ensures))

pub returns : goal.returns
returns c =
    let net = c.args.net.now in
    let count : ℕ = length net.definition.now.steps in
    let end : c.loop-v.v ≡ count = omega (arith, c.loop-v-test.false, c.loop-v.auto.v-end, c.steps-count.ensures.count) in
    let wide : count ≤ 64 * c.div_ceil-width.result = omega (arith, c.steps-count.ensures.count, c.div_ceil-width.ensures) in
    let narrow : c.div_ceil-width.result ≤ 16 = omega (arith, c.steps-count.ensures.count, c.div_ceil-width.ensures, net.few) in
    let exact : c.div_ceil-width.result ≡ words_for count = omega (arith, c.steps-count.ensures.count, c.div_ceil-width.ensures) in
    filled_rows (terms_in net) c.div_ceil-width.result c.loop-v.words.items wide narrow exact net.known net.acyclic (rw end at c.loop-v.invariant)
