use Rattle.std.proofs.Common.{ℕ, ◌≡◌, ◌<◌, ◌≤◌, ◌+◌, ◌-◌, ◌*◌, length, drop, get_or, arith}
use Rattle.std.proofs.lemmas.List.{take_at}
use Rattle.saga_case.specs.Terms.{Terms}
use Rattle.saga_closure.specs.Layers.{no_step}
use Rattle.saga_closure.specs.Nets.{terms_in}
use Rattle.saga_closure.proofs.ArcLemmas.{arcs_sized}
use Rattle.saga_closure.proofs.RowLemmas.{known_need, place_small, no_link, link_right, all_right}
use Rattle.saga_closure.proofs.rows.put_right.Goals as goal
use Rattle.saga_closure.proofs.rows.put_right.Goals.{then-over-links, else-over-links, After-need-need}

pub need-need-requires : goal.need-need-requires
need-need-requires c =
    let t : Terms = terms_in c.args.net.now in
    omega (arith, c.requires.within c.loop-over.over-index c.loop-over-test.true, arcs_sized t, c.steps-links.ensures.count, c.if-over-links.true)

small : (c : After-need-need) → (c.need-need.result.on * c.loop-over.rows.width + c.loop-over.rows.width ≤ length c.loop-over.rows.words.items) × (length c.loop-over.rows.words.items ≤ 16384) × (64 * (c.need-need.result.on * c.loop-over.rows.width) + c.need-need.result.step < 64 * length c.loop-over.rows.words.items)
small c =
    let t : Terms = terms_in c.args.net.now in
    let known = known_need t.needs t.count _ c.need-need.result.step c.need-need.result.on c.args.net.now.known c.need-need.ensures in
    place_small t c.args.on.now c.loop-over.rows.width c.loop-over.rows.words.items _ c.need-need.result.on c.need-need.result.step c.loop-over.invariant c.args.net.now.few known.1 known.0

pub overflow_mul-place : goal.overflow_mul-place
overflow_mul-place c = omega (arith, small (goal.at.overflow_mul-place c).After-need-need)

pub overflow_mul-place-then-over-links : goal.overflow_mul-place-then-over-links
overflow_mul-place-then-over-links c = omega (arith, small (goal.at.overflow_mul-place-then-over-links c).After-need-need)

pub overflow_add-place : goal.overflow_add-place
overflow_add-place c = omega (arith, small (goal.at.overflow_add-place c).After-need-need)

pub put-requires : goal.put-requires
put-requires c = rw c.as_mut_slice.ensures.value (small (goal.at.put-requires c).After-need-need).2

pub loop-over-preserved : goal.loop-over-preserved
loop-over-preserved c =
    let net = c.args.net.now in
    let t : Terms = terms_in net in
    let i : ℕ = c.loop-over.over-index in
    let rows = c.loop-over.rows in
    elim c.if-over-links.branch [
      | then-over-links w ↦
          let over : (get_or c.args.path.now i no_step).arc ≡ t.count + (t.count + ((get_or c.args.path.now i no_step).arc - 2 * c.steps-links.result)) = omega (arith, w.if-over-links.true, c.steps-links.ensures.count) in
          let put = rw (w.as_mut_slice.ensures.value, over) at w.put.ensures in
          let whole = take_at w.put.new.words (drop (length w.put.new.words) c.loop-over.rows.words.items) c.loop-over.rows.words.len (omega (arith, w.put.ensures.sized, w.as_mut_slice.ensures.len)) in
          rw (w.rows-is, whole) (link_right t c.args.on.now c.args.path.now i rows.width rows.words.items c.loop-over.invariant ((get_or c.args.path.now i no_step).arc - 2 * c.steps-links.result) w.need-need.result.step w.need-need.result.on w.put.new.words net.known net.single net.acyclic over w.need-need.ensures put)
      | else-over-links w ↦ rw w.rows-is (no_link t c.args.on.now c.args.path.now i rows.width rows.words.items c.loop-over.invariant (omega (arith, w.if-over-links.false, c.steps-links.ensures.count)))
    ]

pub returns : goal.returns
returns c =
    let t : Terms = terms_in c.args.net.now in
    all_right t c.args.on.now c.args.path.now c.loop-over.over-index c.loop-over.rows.width c.loop-over.rows.words.items (omega (arith, c.loop-over-test.false)) c.loop-over.invariant
