-- A step is labelled where the source can send more to it.
use Rattle.std.proofs.Common.{ℕ, ◌≡◌, ◌<◌, replicate, length, rules, arith}
use Rattle.saga_closure.specs.Layers.{none}
use Rattle.saga_closure.specs.Capacities.{room_at}
use Rattle.saga_closure.specs.Bits.{words_for}
use Rattle.saga_closure.proofs.BitLemmas.{holds_zeros, words_hold}
use Rattle.saga_closure.proofs.StartLemmas.{start_none, start_shut, start_labelled}
use Rattle.saga_closure.proofs.searching.start.Goals as goal
use Rattle.saga_closure.proofs.searching.start.Goals.{then-room_along-gt0+in_ok-label, else-room_along-gt0}

pub loop-v-init : goal.loop-v-init
loop-v-init c =
    let count : ℕ = length c.args.residual.now.net.now.definition.now.steps in
    let many : c.steps-count.result ≡ count = c.steps-count.ensures.count in
    let is : c.in_ok-vec.field-0.items ≡ replicate c.steps-count.result none = search rules in
    let room : length c.in_ok-vec-2.field-0.items ≡ words_for count = omega (arith, many, c.div_ceil.ensures, c.in_ok-vec-2.ensures.len, c.in_ok-vec-2.field-0.ok.0) in
    let empty : c.in_ok-vec-2.field-0.items ≡ replicate c.div_ceil.result 0 = search rules in
    rw (is, many) (start_none (room_at c.args.residual.now.net.now.caps.now c.args.residual.now.on.now) count c.in_ok-vec-2.field-0.items c.in_ok-with_capacity.field-0.items room (λ v held. holds_zeros c.div_ceil.result v (rw empty at held)) c.in_ok-with_capacity.ensures.items)

pub loop-v-preserved : goal.loop-v-preserved
loop-v-preserved c =
    let room : ℕ → ℕ = room_at c.args.residual.now.net.now.caps.now c.args.residual.now.on.now in
    let count : ℕ = length c.args.residual.now.net.now.definition.now.steps in
    let less : c.loop-v.v < count = omega (arith, c.loop-v-test.true, c.steps-count.ensures.count) in
    elim c.if-room_along-gt0.branch [
      | then-room_along-gt0+in_ok-label w ↦
          rw w.found-is (start_labelled room count c.loop-v.found w.label.new.found c.loop-v.v c.loop-v.invariant less (omega (arith, c.room_along.ensures, w.if-room_along-gt0.true)) w.in_ok-label.ensures)
      | else-room_along-gt0 w ↦
          rw w.found-is (start_shut room count _ _ _ c.loop-v.v c.loop-v.invariant less (omega (arith, c.room_along.ensures, w.if-room_along-gt0.false)))
    ]

pub label-requires-clause-labelled : goal.label-requires-clause-labelled
label-requires-clause-labelled c =
    let count : ℕ = length c.args.residual.now.net.now.definition.now.steps in
    omega (arith, c.loop-v-test.true, c.steps-count.ensures.count, words_hold count (length c.loop-v.found.labelled.items) c.loop-v.invariant.wide)
