use Rattle.std.proofs.Common.{◌≡◌, ◌∙◌, length, arith, ap, replicate, rules, drop, [], subst}
use Rattle.std.specs.Prelude.{false, map, slice_index}
use Rattle.std.proofs.lemmas.List.{take_at, nil_from_length}
use Rattle.std.proofs.lemmas.Result.{IfOk-weaker}
use Rattle.saga_def.specs.Adjacency.{places_at, needed, needing}
use Rattle.saga_def.proofs.PeelLemmas.{settling_init, not_done, settle, enough_left, settled, fewer, IsSettling}
use Rattle.saga_def.proofs.AdjacencyLemmas.{links_on, users_below, steps_read, rises}
use Rattle.saga_def.proofs.cycles.peel.Goals as goal

pub loop-s-init : goal.loop-s-init
loop-s-init c =
    let is : c.in_ok-done.done.items ≡ replicate c.args.count false = search rules in
    settling_init c.args.needs.now c.args.count c.in_ok-done.done.items c.in_ok-unmet.unmet.items c.in_ok-todo.todo.items is c.in_ok-unmet.ensures.sized c.in_ok-unmet.ensures.each (rw c.deref.ensures.value at c.in_ok-todo.ensures)

pub index_mut-requires : goal.index_mut-requires
index_mut-requires c =
    let was = not_done _ _ _ _ _ _ c.in-Some.s c.loop-s.invariant c.in-Some.ensures.items in
    omega (arith, was.0, c.loop-s.invariant.safe.sized)

pub entries_at-users-requires-clause-within : goal.entries_at-users-requires-clause-within
entries_at-users-requires-clause-within c =
    let was = not_done _ _ _ _ _ _ c.in-Some.s c.loop-s.invariant c.in-Some.ensures.items in
    rw c.as_slice.ensures.value (omega (arith, was.0, c.requires.listed.sized))

pub entries_at-users-requires-clause-rises : goal.entries_at-users-requires-clause-rises
entries_at-users-requires-clause-rises c =
    let was = not_done _ _ _ _ _ _ c.in-Some.s c.loop-s.invariant c.in-Some.ensures.items in
    rw c.as_slice.ensures.value (rises _ _ _ _ _ _ c.in-Some.s c.requires.listed was.0)

pub lower-requires-clause-known : goal.lower-requires-clause-known
lower-requires-clause-known c =
    let was = not_done _ _ _ _ _ _ c.in-Some.s c.loop-s.invariant c.in-Some.ensures.items in
    let read = rw (c.as_slice.ensures.value, c.as_slice-in-Some.ensures.value) at c.entries_at-users.ensures in
    let users = read ∙ steps_read _ _ _ _ _ _ c.in-Some.s c.requires.listed was.0 in
    rw (users, c.as_mut_slice.ensures.value, c.loop-s.invariant.sized) (users_below c.args.needs.now c.args.count c.in-Some.s c.requires.known)

pub lower-requires-clause-enough : goal.lower-requires-clause-enough
lower-requires-clause-enough c =
    let was = not_done _ _ _ _ _ _ c.in-Some.s c.loop-s.invariant c.in-Some.ensures.items in
    let read = rw (c.as_slice.ensures.value, c.as_slice-in-Some.ensures.value) at c.entries_at-users.ensures in
    let users = read ∙ steps_read _ _ _ _ _ _ c.in-Some.s c.requires.listed was.0 in
    let enough = enough_left c.args.needs.now c.args.count c.loop-s.done.items c.loop-s.unmet.items c.loop-s.todo.items c.pop.new.self.items (map (slice_index (needing c.args.needs.now)) (places_at (needed c.args.needs.now) (needing c.args.needs.now) c.args.count c.in-Some.s)) c.in-Some.s c.loop-s.invariant c.in-Some.ensures.items (λ s lt. links_on c.args.needs.now c.args.count c.in-Some.s c.requires.known s) in
    rw (users, c.as_mut_slice.ensures.value, c.loop-s.invariant.sized) enough

pub loop-s-smaller : goal.loop-s-smaller
loop-s-smaller c =
    let was = not_done _ _ _ _ _ _ c.in-Some.s c.loop-s.invariant c.in-Some.ensures.items in
    fewer c.loop-s.done.items c.in-Some.s (omega (arith, was.0, c.loop-s.invariant.safe.sized)) was.1

pub loop-s-preserved : goal.loop-s-preserved
loop-s-preserved c =
    let was = not_done _ _ _ _ _ _ c.in-Some.s c.loop-s.invariant c.in-Some.ensures.items in
    let read = rw (c.as_slice.ensures.value, c.as_slice-in-Some.ensures.value) at c.entries_at-users.ensures in
    let users = read ∙ steps_read _ _ _ _ _ _ c.in-Some.s c.requires.listed was.0 in
    let lowered = rw (users, c.as_mut_slice.ensures.value) at c.in_ok-lower.ensures in
    let same : length c.as_mut_slice.result.now ≡ length c.loop-s.unmet.items = ap length c.as_mut_slice.ensures.value in
    let whole = take_at c.lower.new.unmet (drop (length c.lower.new.unmet) c.loop-s.unmet.items) c.loop-s.unmet.len (omega arith) in
    rw whole
    (settle c.args.needs.now c.args.count c.loop-s.done.items c.loop-s.unmet.items c.loop-s.todo.items c.pop.new.self.items (map (slice_index (needing c.args.needs.now)) (places_at (needed c.args.needs.now) (needing c.args.needs.now) c.args.count c.in-Some.s)) c.lower.new.unmet c.lower.new.todo.items c.in-Some.s c.loop-s.invariant c.in-Some.ensures.items (λ s lt. links_on c.args.needs.now c.args.count c.in-Some.s c.requires.known s) lowered (omega (arith, same)))

pub returns : goal.returns
returns c =
    let none : c.loop-s.todo.items ≡ [] = nil_from_length c.loop-s.todo.items (omega (arith, c.in_default.ensures.cases.0)) in
    let at_end = subst (λ xs. IsSettling c.args.needs.now c.args.count c.loop-s.done.items c.loop-s.unmet.items xs) none c.loop-s.invariant in
    let blocked = rw c.deref-2.ensures.value at c.blockers.ensures in
    IfOk-weaker c.blockers.result _ _ (λ bs are. settled c.args.needs.now c.args.count c.loop-s.done.items c.loop-s.unmet.items bs.items c.requires.known at_end are) blocked
