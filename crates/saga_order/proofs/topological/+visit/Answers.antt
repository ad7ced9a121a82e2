use Rattle.std.proofs.Common.{◌≡◌, ◌<◌, ◌+◌, ◌∙◌, true, length, get_or, set, take, arith}
use Rattle.std.specs.Prelude.{count_by, not}
use Rattle.std.proofs.lemmas.List.{length-set, take_more, take_all}
use Rattle.saga_def.specs.Order.{NeedsDirectly}
use Rattle.saga_order.proofs.Chains.{known_on}
use Rattle.saga_order.proofs.LawLemmas.{ordered_from_sound}
use Rattle.saga_order.proofs.TopologicalLemmas.{count_marked, passed_call, passed_visited, above_need, need_visited, need_at, visited_step}
use Rattle.saga_order.proofs.topological.+visit.Goals as goal
use Rattle.saga_order.specs.Shape.{shape_of}
use Rattle.saga_order.proofs.topological.+visit.Goals.{then-not-visited-on+in_ok-visit, else-not-visited-on}

pub bounds-visited-on : goal.bounds-visited-on
bounds-visited-on t c =
    let shape = shape_of c.args.definition.now in
    let ordered = ordered_from_sound c.args.definition.now c.needs_of-on-items.ensures.sound in
    let list = c.needs_of-on-items in
    let direct : NeedsDirectly shape.needs c.args.step (get_or list.result.now c.loop-on.on-index 0) =
    need_at shape c.args.step list.result.now c.loop-on.on-index list.ensures.exact c.loop-on-test.true in
    rw (c.loop-on.invariant.sized ∙ length-set c.args.visited.now c.args.step _ ∙ c.requires.sized)
    (known_on shape.needs shape.count c.args.step _ ordered.known direct)

pub visit-requires : goal.visit-requires
visit-requires t c =
    let shape = shape_of c.args.definition.now in
    let ordered = ordered_from_sound c.args.definition.now c.needs_of-on-items.ensures.sound in
    let list = c.needs_of-on-items in
    let passed = c.loop-on.invariant in
    let direct : NeedsDirectly shape.needs c.args.step (get_or list.result.now c.loop-on.on-index 0) =
    need_at shape c.args.step list.result.now c.loop-on.on-index list.ensures.exact c.loop-on-test.true in
    let within : c.args.step < length c.args.visited.now = rw c.requires.sized c.requires.within in
    let marked : count_by not (set c.args.visited.now c.args.step true) + 1 ≡ count_by not c.args.visited.now =
    count_marked c.args.visited.now c.args.step within c.requires.fresh in
    let falls : count_by not c.loop-on.visited < t = omega (arith, passed.fewer, marked, c.decreases) in (
      falls,
      (
        passed.sized ∙ length-set c.args.visited.now c.args.step _ ∙ c.requires.sized,
        (
          passed.in_order,
          (
            known_on shape.needs shape.count c.args.step _ ordered.known direct,
            (
              c.if-not-visited-on.true,
              above_need shape c.args.visited.now c.args.order.now.items c.args.step _ _ c.loop-on.visited c.loop-on.order.items within c.requires.above passed direct,
            ),
          ),
        ),
      ),
    )

pub loop-on-preserved : goal.loop-on-preserved
loop-on-preserved t c =
    let shape = shape_of c.args.definition.now in
    let ordered = ordered_from_sound c.args.definition.now c.needs_of-on-items.ensures.sound in
    let list = c.needs_of-on-items in
    let passed = c.loop-on.invariant in
    let direct : NeedsDirectly shape.needs c.args.step (get_or list.result.now c.loop-on.on-index 0) =
    need_at shape c.args.step list.result.now c.loop-on.on-index list.ensures.exact c.loop-on-test.true in
    let within : c.args.step < length c.args.visited.now = rw c.requires.sized c.requires.within in
    rw (take_more list.result.now c.loop-on.on-index 0 c.loop-on-test.true)
    (elim c.if-not-visited-on.branch [
      | then-not-visited-on+in_ok-visit w ↦
          rw (w.visited-is, w.order-is)
          (passed_call shape _ _ _ _ c.loop-on.visited _ c.loop-on.order.items _ passed w.in_ok-visit.ensures)
      | else-not-visited-on w ↦
          rw (w.visited-is, w.order-is)
          (passed_visited shape _ _ _ _ c.loop-on.visited c.loop-on.order.items passed
          (need_visited shape c.args.visited.now c.args.order.now.items c.args.step _ _ c.loop-on.visited c.loop-on.order.items ordered.acyclic within c.requires.above passed direct w.if-not-visited-on.false))
    ])

pub returns : goal.returns
returns t c =
    let shape = shape_of c.args.definition.now in
    let ordered = ordered_from_sound c.args.definition.now c.needs_of-on-items.ensures.sound in
    let list = c.needs_of-on-items in
    let within : c.args.step < length c.args.visited.now = rw c.requires.sized c.requires.within in
    let whole : take c.loop-on.on-index list.result.now ≡ list.result.now = take_all c.loop-on.on-index list.result.now c.loop-on-test.false in
    rw c.in_ok-push.ensures.items
    (visited_step shape c.args.visited.now c.args.order.now.items c.args.step list.result.now c.loop-on.visited c.loop-on.order.items c.requires.within within c.requires.fresh list.ensures.exact
    (rw whole at c.loop-on.invariant))
