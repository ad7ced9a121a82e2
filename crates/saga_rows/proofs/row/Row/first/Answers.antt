use Rattle.std.proofs.Common.{◌≡◌, ◌<◌, ◌∙◌, length, arith, sym}
use Rattle.std.proofs.lemmas.List.{get_or_read}
use Rattle.saga_case.specs.declared.states.StepState.TheVariants.{Waiting}
use Rattle.saga_rows.specs.Row.{state_at}
use Rattle.saga_rows.proofs.RowLemmas.{may_run, may_undo, allows_none, comes_first, drains}
use Rattle.saga_rows.proofs.row.Row.first.Goals as goal

pub returns-in-None : goal.returns-in-None
returns-in-None c = rw (← c.self.view_is) (allows_none _ _ _ c.self.inside.turn c.self.inside.misses.items c.self.inside.undo_misses.items c.self.inside.aborted _ _ _ _ _ c.self.invariant.tables c.in-Going.is c.in-None.ensures)

pub returns-in-Waiting : goal.returns-in-Waiting
returns-in-Waiting c =
    let lt : c.in-Some.s < length c.self.inside.definition.now.steps = omega (arith, c.in-Some.ensures.0, c.self.invariant.tables.ready_sized) in
    let read : c.index.result.now ≡ state_at c.self.inside.states.items c.in-Some.s = get_or_read c.self.inside.states.items c.in-Some.s c.index.result.now (omega (arith, lt, c.self.invariant.tables.states_sized)) c.index.ensures Waiting in
    rw (← c.self.view_is) (
      may_run _ _ _ c.self.inside.turn c.self.inside.misses.items c.self.inside.undo_misses.items c.self.inside.aborted _ _ _ _ _ c.self.invariant.tables c.in-Some.s lt c.in-Going.is c.in-Some.ensures.1 (sym read ∙ c.in-Waiting.is),
      comes_first _ _ _ c.self.inside.turn c.self.inside.misses.items c.self.inside.undo_misses.items c.self.inside.aborted _ _ _ _ _ c.self.invariant.tables c.in-Some.s c.in-Going.is c.in-Some.ensures.2,
    )

pub returns-in_default : goal.returns-in_default
returns-in_default c =
    let lt : c.in-Some.s < length c.self.inside.definition.now.steps = omega (arith, c.in-Some.ensures.0, c.self.invariant.tables.ready_sized) in
    let read : c.index.result.now ≡ state_at c.self.inside.states.items c.in-Some.s = get_or_read c.self.inside.states.items c.in-Some.s c.index.result.now (omega (arith, lt, c.self.invariant.tables.states_sized)) c.index.ensures Waiting in
    rw (← c.self.view_is) (
      may_undo _ _ _ c.self.inside.turn c.self.inside.misses.items c.self.inside.undo_misses.items c.self.inside.aborted _ _ _ _ _ c.self.invariant.tables c.in-Some.s lt c.in-Going.is c.in-Some.ensures.1 (λ waiting. c.in_default.not-Waiting (read ∙ waiting)),
      comes_first _ _ _ c.self.inside.turn c.self.inside.misses.items c.self.inside.undo_misses.items c.self.inside.aborted _ _ _ _ _ c.self.invariant.tables c.in-Some.s c.in-Going.is c.in-Some.ensures.2,
    )

pub returns-else-self-eq0 : goal.returns-else-self-eq0
returns-else-self-eq0 c = rw (← c.self.view_is) (drains _ _ _ c.self.inside.turn c.self.inside.misses.items c.self.inside.undo_misses.items c.self.inside.aborted _ _ _ _ _ c.self.invariant.tables c.in-Draining.is c.if-self-eq0.false)
