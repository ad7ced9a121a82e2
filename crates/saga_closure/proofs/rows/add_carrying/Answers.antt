-- Need by need: where one carries something its bit is put in.
use Rattle.std.proofs.Common.{ℕ, ◌≡◌, ◌<◌, ◌≤◌, ◌+◌, ◌*◌, List, length, drop, get_or, arith}
use Rattle.std.proofs.lemmas.List.{take_at}
use Rattle.saga_case.specs.Terms.{Terms}
use Rattle.saga_closure.specs.Nets.{terms_in}
use Rattle.saga_closure.proofs.ArcLemmas.{arcs_sized}
use Rattle.saga_closure.proofs.RowLemmas.{known_need, place_small, rows_begun, rows_passed, rows_carrying, rows_ended}
use Rattle.saga_closure.proofs.rows.add_carrying.Goals as goal
use Rattle.saga_closure.proofs.rows.add_carrying.Goals.{then-residual-links-gt0, else-residual-links-gt0, After-need-need}

pub loop-k-init : goal.loop-k-init
loop-k-init c = rows_begun (terms_in c.args.residual.now.net.now) c.args.residual.now.on.now c.args.rows.now.width c.args.rows.now.words.items c.requires

pub bounds-residual-links : goal.bounds-residual-links
bounds-residual-links c =
    let t : Terms = terms_in c.args.residual.now.net.now in
    omega (arith, c.args.residual.now.amounts, arcs_sized t, c.steps-links.ensures.count, c.needs-k-end.ensures.count, c.loop-k-test.true, c.loop-k.auto.k-end)

small : (c : After-need-need) → (c.need-need.result.on * c.loop-k.rows.width + c.loop-k.rows.width ≤ length c.loop-k.rows.words.items) × (length c.loop-k.rows.words.items ≤ 16384) × (64 * (c.need-need.result.on * c.loop-k.rows.width) + c.need-need.result.step < 64 * length c.loop-k.rows.words.items)
small c =
    let net = c.args.residual.now.net.now in
    let t : Terms = terms_in net in
    let known = known_need t.needs t.count c.loop-k.k c.need-need.result.step c.need-need.result.on net.known c.need-need.ensures in
    place_small t c.args.residual.now.on.now c.loop-k.rows.width c.loop-k.rows.words.items _ c.need-need.result.on c.need-need.result.step c.loop-k.invariant.rows net.few known.1 known.0

pub overflow_mul-place : goal.overflow_mul-place
overflow_mul-place c = omega (arith, small (goal.at.overflow_mul-place c).After-need-need)

pub overflow_mul-place-then-residual-links-gt0 : goal.overflow_mul-place-then-residual-links-gt0
overflow_mul-place-then-residual-links-gt0 c = omega (arith, small (goal.at.overflow_mul-place-then-residual-links-gt0 c).After-need-need)

pub overflow_add-place : goal.overflow_add-place
overflow_add-place c = omega (arith, small (goal.at.overflow_add-place c).After-need-need)

pub put-requires : goal.put-requires
put-requires c = rw c.as_mut_slice.ensures.value (small (goal.at.put-requires c).After-need-need).2

pub loop-k-preserved : goal.loop-k-preserved
loop-k-preserved c =
    let net = c.args.residual.now.net.now in
    let t : Terms = terms_in net in
    let on : List ℕ = c.args.residual.now.on.now in
    let rows = c.loop-k.rows in
    let over : 2 * c.steps-links.result + c.loop-k.k ≡ t.count + (t.count + c.loop-k.k) = omega (arith, c.steps-links.ensures.count) in
    elim c.if-residual-links-gt0.branch [
      | then-residual-links-gt0 w ↦
          let put = rw w.as_mut_slice.ensures.value at w.put.ensures in
          let whole = take_at w.put.new.words (drop (length w.put.new.words) c.loop-k.rows.words.items) c.loop-k.rows.words.len (omega (arith, w.put.ensures.sized, w.as_mut_slice.ensures.len)) in
          let some : 0 < get_or on (t.count + (t.count + c.loop-k.k)) 0 = rw over at w.if-residual-links-gt0.true in
          rw (w.rows-is, whole) (rows_carrying t on rows.width rows.words.items c.loop-k.k c.loop-k.invariant w.need-need.result.step w.need-need.result.on w.put.new.words net.known net.single net.acyclic some w.need-need.ensures put)
      | else-residual-links-gt0 w ↦
          let clear : get_or on (2 * c.steps-links.result + c.loop-k.k) 0 ≡ 0 = omega (arith, w.if-residual-links-gt0.false) in
          let none : get_or on (t.count + (t.count + c.loop-k.k)) 0 ≡ 0 = rw over at clear in
          rw w.rows-is (rows_passed t on rows.width rows.words.items c.loop-k.k c.loop-k.invariant none)
    ]

pub returns : goal.returns
returns c =
    let t : Terms = terms_in c.args.residual.now.net.now in
    rows_ended t c.args.residual.now.on.now c.loop-k.rows.width c.loop-k.rows.words.items c.loop-k.k (omega (arith, c.loop-k-test.false, c.needs-k-end.ensures.count, c.loop-k.auto.k-end)) c.loop-k.invariant
