use Rattle.std.proofs.Common.{◌≡◌, ◌<◌, length, drop, ap, arith}
use Rattle.std.specs.Prelude.{false}
use Rattle.std.proofs.lemmas.List.{take_at, get_or_read}
use Rattle.saga_case.specs.declared.states.StepState.TheVariants.{Waiting}
use Rattle.saga_rows.specs.Row.{state_at, mark_at}
use Rattle.saga_def.proofs.AdjacencyLemmas.{needs_of_below, needed_by_below}
use Rattle.saga_rows.proofs.RowLemmas.{unmet_known, held_known, unmet_enough, held_enough, unmet_room, held_room, unfinished_enough, unfinished_room, entered}
use Rattle.saga_rows.proofs.row.Row.enter.Goals as goal

pub shift-requires-clause-known : goal.shift-requires-clause-known
shift-requires-clause-known c =
    let lt : c.args.s < length c.self.inside.definition.now.steps = rw (← c.self.view_is) at c.requires in
    rw (c.needed_by-users.ensures.value, c.deref_mut.ensures.value) (unmet_known _ _ _ _ _ _ _ _ c.self.invariant.tables c.args.s c.args.state lt)

pub shift-requires-clause-enough : goal.shift-requires-clause-enough
shift-requires-clause-enough c =
    let lt : c.args.s < length c.self.inside.definition.now.steps = rw (← c.self.view_is) at c.requires in
    let read : c.index-old.result.now ≡ state_at c.self.inside.states.items c.args.s = get_or_read c.self.inside.states.items c.args.s c.index-old.result.now (omega (arith, lt, c.self.invariant.tables.states_sized)) c.index-old.ensures Waiting in
    rw (c.is_standing.ensures, read, c.needed_by-users.ensures.value, c.deref_mut.ensures.value) (unmet_enough _ _ _ _ _ _ _ _ c.self.invariant.tables c.args.s c.args.state lt)

pub shift-requires-clause-room : goal.shift-requires-clause-room
shift-requires-clause-room c =
    let lt : c.args.s < length c.self.inside.definition.now.steps = rw (← c.self.view_is) at c.requires in
    rw (c.needed_by-users.ensures.value, c.deref_mut.ensures.value) (unmet_room _ _ _ _ _ _ _ _ c.self.invariant.tables c.args.s c.args.state lt)

pub shift-requires-2-clause-known : goal.shift-requires-2-clause-known
shift-requires-2-clause-known c =
    let lt : c.args.s < length c.self.inside.definition.now.steps = rw (← c.self.view_is) at c.requires in
    rw (c.needs_of-needs.ensures.value, c.deref_mut-2.ensures.value) (held_known _ _ _ _ _ _ _ _ c.self.invariant.tables c.args.s c.args.state lt)

pub shift-requires-2-clause-enough : goal.shift-requires-2-clause-enough
shift-requires-2-clause-enough c =
    let lt : c.args.s < length c.self.inside.definition.now.steps = rw (← c.self.view_is) at c.requires in
    let read : c.index-old.result.now ≡ state_at c.self.inside.states.items c.args.s = get_or_read c.self.inside.states.items c.args.s c.index-old.result.now (omega (arith, lt, c.self.invariant.tables.states_sized)) c.index-old.ensures Waiting in
    rw (c.is_off.ensures, read, c.needs_of-needs.ensures.value, c.deref_mut-2.ensures.value) (held_enough _ _ _ _ _ _ _ _ c.self.invariant.tables c.args.s c.args.state lt)

pub shift-requires-2-clause-room : goal.shift-requires-2-clause-room
shift-requires-2-clause-room c =
    let lt : c.args.s < length c.self.inside.definition.now.steps = rw (← c.self.view_is) at c.requires in
    rw (c.needs_of-needs.ensures.value, c.deref_mut-2.ensures.value) (held_room _ _ _ _ _ _ _ _ c.self.invariant.tables c.args.s c.args.state lt)

pub invariant_of-self : goal.invariant_of-self
invariant_of-self c =
    let lt : c.args.s < length c.self.inside.definition.now.steps = rw (← c.self.view_is) at c.requires in
    let read : c.index-old.result.now ≡ state_at c.self.inside.states.items c.args.s = get_or_read c.self.inside.states.items c.args.s c.index-old.result.now (omega (arith, lt, c.self.invariant.tables.states_sized)) c.index-old.ensures Waiting in
    let marked : c.index-wanted.result.now ≡ mark_at c.self.inside.goal.items c.args.s = get_or_read c.self.inside.goal.items c.args.s c.index-wanted.result.now (omega (arith, lt, c.self.invariant.tables.goal_sized)) c.index-wanted.ensures false in
    let same : length c.deref_mut.result.now ≡ length c.self.inside.unmet.items = ap length c.deref_mut.ensures.value in
    let same' : length c.deref_mut-2.result.now ≡ length c.self.inside.held.items = ap length c.deref_mut-2.ensures.value in
    let whole = take_at c.shift.new.counts (drop (length c.shift.new.counts) c.self.inside.unmet.items) c.self.inside.unmet.len (omega (arith, same)) in
    let whole' = take_at c.shift-2.new.counts (drop (length c.shift-2.new.counts) c.self.inside.held.items) c.self.inside.held.len (omega (arith, same')) in
    let shifted = rw (c.is_standing.ensures, c.is_standing-2.ensures, read, c.needed_by-users.ensures.value, c.deref_mut.ensures.value) at c.shift.ensures in
    let shifted' = rw (c.is_off.ensures, c.is_off-2.ensures, read, c.needs_of-needs.ensures.value, c.deref_mut-2.ensures.value) at c.shift-2.ensures in
    let moved = rw (c.is_busy.ensures.value, c.is_busy-2.ensures.value, read) at c.moved-self-inside.ensures in
    let finished = rw (c.is_finished.ensures, c.is_finished-2.ensures, read, marked) at c.moved-self-inside-2.ensures in
    let first = rw (c.deref.ensures.value, c.deref-2.ensures.value, c.deref-3.ensures.value, c.deref-4.ensures.value, whole, whole') at c.refresh.ensures in
    let second = rw (c.deref-5.ensures.value, c.deref-6.ensures.value, c.deref-7.ensures.value, c.deref-8.ensures.value, whole, whole', c.needed_by-users.ensures.value) at c.refresh-2.ensures in
    let third = rw (c.deref-9.ensures.value, c.deref-10.ensures.value, c.deref-11.ensures.value, c.deref-12.ensures.value, whole, whole', c.needs_of-needs.ensures.value) at c.refresh-3.ensures in
    record {
      tables = rw (whole, whole') (entered _ _ _ _ _ _ _ _ c.self.invariant.tables c.args.s c.args.state lt c.shift.new.counts c.shift-2.new.counts c.moved-self-inside.result c.moved-self-inside-2.result c.refresh.new.ready c.refresh-2.new.ready c.refresh-3.new.ready shifted (omega (arith, same)) shifted' (omega (arith, same')) moved finished first second third);
      misses_sized = c.self.invariant.misses_sized;
      undo_misses_sized = c.self.invariant.undo_misses_sized;
    }

pub refresh-requires-2-clause-known : goal.refresh-requires-2-clause-known
refresh-requires-2-clause-known c =
    rw (c.needed_by-users.ensures.value, c.refresh.ensures.sized, c.self.invariant.tables.ready_sized) (needed_by_below c.self.inside.definition.now c.args.s c.self.invariant.tables.sound.known)

pub refresh-requires-3-clause-known : goal.refresh-requires-3-clause-known
refresh-requires-3-clause-known c =
    rw (c.needs_of-needs.ensures.value, c.refresh-2.ensures.sized, c.refresh.ensures.sized, c.self.invariant.tables.ready_sized) (needs_of_below c.self.inside.definition.now c.args.s c.self.invariant.tables.sound.known)

pub moved-self-inside-requires-2-clause-enough : goal.moved-self-inside-requires-2-clause-enough
moved-self-inside-requires-2-clause-enough c =
    let lt : c.args.s < length c.self.inside.definition.now.steps = rw (← c.self.view_is) at c.requires in
    let read : c.index-old.result.now ≡ state_at c.self.inside.states.items c.args.s = get_or_read c.self.inside.states.items c.args.s c.index-old.result.now (omega (arith, lt, c.self.invariant.tables.states_sized)) c.index-old.ensures Waiting in
    let marked : c.index-wanted.result.now ≡ mark_at c.self.inside.goal.items c.args.s = get_or_read c.self.inside.goal.items c.args.s c.index-wanted.result.now (omega (arith, lt, c.self.invariant.tables.goal_sized)) c.index-wanted.ensures false in
    rw (c.is_finished.ensures, read, marked) (unfinished_enough _ _ _ _ _ _ _ _ c.self.invariant.tables c.args.s c.args.state lt)

pub moved-self-inside-requires-2-clause-room : goal.moved-self-inside-requires-2-clause-room
moved-self-inside-requires-2-clause-room c =
    let lt : c.args.s < length c.self.inside.definition.now.steps = rw (← c.self.view_is) at c.requires in
    unfinished_room _ _ _ _ _ _ _ _ c.self.invariant.tables c.args.s c.args.state lt
