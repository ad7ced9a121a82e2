-- Layer by layer: where none of a layer's steps sends more to the sink, the layer is visited.
use Rattle.std.proofs.Common.{ℕ, true, ◌≡◌, ◌<◌, ◌+◌, ◌*◌, ◌∙◌, List, length, drop, get_or, ap, sym, refl, arith}
use Rattle.std.proofs.lemmas.List.{take_at}
use Rattle.saga_def.specs.Rules.{AreKnown}
use Rattle.saga_case.specs.Terms.{Terms}
use Rattle.saga_closure.specs.declared.rows.Rows.{Rows}
use Rattle.saga_closure.specs.declared.searching.Found.{Found}
use Rattle.saga_closure.specs.Bits.{holds}
use Rattle.saga_closure.specs.Layers.{IsSearch}
use Rattle.saga_closure.specs.Rows.{AreRows, IsUnion}
use Rattle.saga_closure.specs.Nets.{terms_in}
use Rattle.saga_closure.proofs.NetLemmas.{own_capacities}
use Rattle.saga_closure.proofs.BitLemmas.{holds_within}
use Rattle.saga_closure.proofs.RowLemmas.{row_goes, goes_row}
use Rattle.saga_closure.proofs.SearchLemmas.{IsLedTo, dry_more, layer_labelled}
use Rattle.saga_closure.proofs.VisitLemmas.{search_start, out_from_room, room_from_out}
use Rattle.saga_closure.proofs.searching.search.Goals as goal
use Rattle.saga_closure.proofs.searching.search.Goals.{After-deref-in-loop-first-2}

-- what the rows of a layer hold are steps to which its steps lead
led_to : (t : Terms) (on : List ℕ) (rows : Rows) (found : Found) (set : List ℕ) (first end depth dried : ℕ) → AreKnown t.needs t.count → AreRows t on rows → IsSearch t on found.level.items found.labelled.items found.order.items first (length found.order.items) first depth dried → end ≡ length found.order.items → IsUnion rows found.order.items first end set → (w : ℕ) → holds set w ≡ true → IsLedTo t on found.level.items depth w
led_to t on rows found set first end depth dried known are search whole union w held =
    let w_lt : w < 64 * rows.width = omega (arith, holds_within set w held, union.sized) in
    let at = union.only w w_lt held in
    let v : ℕ = get_or found.order.items at.0 0 in
    let j_lt : at.0 < length found.order.items = omega (arith, at.2, whole) in
    let v_lt : get_or found.order.items at.0 0 < t.count = search.inside at.0 j_lt in
    let to = row_goes t on rows.width rows.words.items are known (get_or found.order.items at.0 0) w v_lt w_lt at.3 in
    (to.0, (get_or found.order.items at.0 0, v_lt, search.here at.0 at.1 j_lt, to.1))

pub loop-first-init : goal.loop-first-init
loop-first-init c =
    let net = c.args.residual.now.net.now in
    let found = c.in_ok-found.found in
    record { sized = omega (arith, c.in_ok-next.ensures.len, c.in_ok-next.next.ok.0); on_way = search_start (terms_in net) net.caps.now c.args.residual.now.on.now found.level.items found.labelled.items found.order.items (own_capacities net.definition.now net.caps.now net.sized net.small) net.few c.in_ok-found.ensures }

pub find_goal-requires : goal.find_goal-requires
find_goal-requires c = rw c.deref.ensures.value c.loop-first.invariant.on_way.inside

pub returns-in-Some-clause-goal : goal.returns-in-Some-clause-goal
returns-in-Some-clause-goal c =
    let net = c.args.residual.now.net.now in
    let out = rw c.deref.ensures.value at c.in-Some.ensures.some in
    let at = out.listed in
    record {
      search = c.loop-first.invariant.on_way;
      inside = out.inside;
      level = rw at.3 at (c.loop-first.invariant.on_way.here at.0 at.1 at.2);
      goes = out_from_room (terms_in net) net.caps.now c.args.residual.now.on.now c.in-Some.step (own_capacities net.definition.now net.caps.now net.sized net.small) out.inside out.some;
    }

set_is : (c : After-deref-in-loop-first-2) → c.deref-in-loop-first-2.result.now ≡ c.steps_after.new.set
set_is c = c.deref-in-loop-first-2.ensures.value ∙ take_at c.steps_after.new.set (drop (length c.steps_after.new.set) c.loop-first.next.items) c.loop-first.next.len (omega (arith, c.steps_after.ensures.sized, c.loop-first.invariant.sized, c.loop-first.next.ok.0))

pub label_all-requires-clause-level : goal.label_all-requires-clause-level
label_all-requires-clause-level c =
    let net = c.args.residual.now.net.now in
    let union = rw c.deref-in-loop-first.ensures.value at c.steps_after.ensures in
    rw (set_is (goal.at.label_all-requires-clause-level c).After-deref-in-loop-first-2) (λ u lt held. omega (arith, (led_to (terms_in net) c.args.residual.now.on.now c.args.rows.now c.loop-first.found c.steps_after.new.set c.loop-first.first c.len-end.result c.loop-first.depth _ net.known c.requires c.loop-first.invariant.on_way (omega (arith, c.len-end.ensures, c.loop-first.found.order.ok.0)) union u held).0, c.loop-first.invariant.on_way.sized))

pub label_all-requires-clause-same : goal.label_all-requires-clause-same
label_all-requires-clause-same c =
    ap length (set_is (goal.at.label_all-requires-clause-same c).After-deref-in-loop-first-2) ∙ c.steps_after.ensures.sized ∙ c.requires.exact ∙ sym c.loop-first.invariant.on_way.wide

pub loop-first-preserved : goal.loop-first-preserved
loop-first-preserved c =
    let net = c.args.residual.now.net.now in
    let t = terms_in net in
    let on : List ℕ = c.args.residual.now.on.now in
    let found = c.loop-first.found in
    let order : List ℕ = found.order.items in
    let end_is : c.len-end.result ≡ length order = omega (arith, c.len-end.ensures, found.order.ok.0) in
    let some : c.loop-first.first < c.len-end.result = omega (arith, c.loop-first-test.true, c.len.ensures, c.len-end.ensures) in
    let none_goes = rw c.deref.ensures.value at c.in_default.ensures.none in
    let dry = dry_more t on found.level.items found.labelled.items order c.loop-first.first (length order) c.loop-first.first c.loop-first.depth c.loop-first.depth c.loop-first.invariant.on_way refl
    (λ j le lt goes. absurd (omega (arith, none_goes j le lt, room_from_out t net.caps.now on (get_or order j 0) (own_capacities net.definition.now net.caps.now net.sized net.small) goes))) in
    let dry' = rw (← end_is) at dry in
    let union = rw c.deref-in-loop-first.ensures.value at c.steps_after.ensures in
    let is = set_is (goal.at.loop-first-preserved c).After-deref-in-loop-first-2 in
    let labelled = rw is at c.in_ok-label_all.ensures.labelled in
    let all = rw is at c.in_ok-label_all.ensures.all in
    record {
      sized = ap length (sym c.deref-in-loop-first-2.ensures.value ∙ is) ∙ c.steps_after.ensures.sized;
      on_way = layer_labelled t on c.loop-first.first c.len-end.result c.loop-first.depth (c.loop-first.depth + 1) (λ u. holds c.steps_after.new.set u ≡ true) found dry'
          (led_to t on c.args.rows.now found c.steps_after.new.set c.loop-first.first c.len-end.result c.loop-first.depth _ net.known c.requires c.loop-first.invariant.on_way end_is union)
          c.label_all.new.found labelled end_is some
          (λ w held. all w (holds_within c.steps_after.new.set w held) held)
          (λ j w le lt w_lt goes. union.all j w le lt (omega (arith, w_lt, c.requires.wide)) (goes_row t on c.args.rows.now.width c.args.rows.now.words.items c.requires net.known (get_or order j 0) w goes));
    }
