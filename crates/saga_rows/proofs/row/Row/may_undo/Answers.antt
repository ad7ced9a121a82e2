use Rattle.std.proofs.Common.{rules, ◌≡◌, ◌<◌, length, arith, sym, ap, ◌∙◌}
use Rattle.std.proofs.lemmas.List.{get_or_read}
use Rattle.std.specs.Prelude.{true}
use Rattle.saga_case.specs.States.{commits}
use Rattle.saga_case.specs.declared.states.StepState.TheVariants.{Waiting}
use Rattle.saga_history.specs.declared.turns.Turn.TheVariants.{Going}
use Rattle.saga_rows.specs.Row.{state_at}
use Rattle.saga_rows.proofs.RowLemmas.{undo_exactly}
use Rattle.saga_rows.proofs.row.Row.may_undo.Goals as goal

pub returns : goal.returns
returns c =
    let lt : c.args.s < length c.self.inside.definition.now.steps = rw (← c.self.view_is) at c.requires in
    let going : c.self.inside.turn ≡ Going = search rules in
    let here : commits c.index.result.now ≡ true = search rules in
    let read : c.index.result.now ≡ state_at c.self.inside.states.items c.args.s = get_or_read c.self.inside.states.items c.args.s c.index.result.now (omega (arith, lt, c.self.invariant.tables.states_sized)) c.index.ensures Waiting in
    rw (← c.self.view_is, c.has.ensures) (undo_exactly _ _ _ c.self.inside.turn c.self.inside.misses.items c.self.inside.undo_misses.items c.self.inside.aborted _ _ _ _ _ c.self.invariant.tables c.args.s lt going (ap commits (sym read) ∙ here))
