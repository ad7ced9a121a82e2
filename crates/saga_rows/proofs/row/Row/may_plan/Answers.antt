use Rattle.std.proofs.Common.{rules, ◌≡◌}
use Rattle.saga_history.specs.declared.turns.Turn.TheVariants.{Draining}
use Rattle.saga_rows.proofs.RowLemmas.{plan_exactly}
use Rattle.saga_rows.proofs.row.Row.may_plan.Goals as goal

pub returns : goal.returns
returns c =
    let draining : c.self.inside.turn ≡ Draining = search rules in
    rw (← c.self.view_is) (plan_exactly _ _ _ c.self.inside.turn c.self.inside.misses.items c.self.inside.undo_misses.items c.self.inside.aborted _ _ _ _ _ c.self.invariant.tables draining)
