use Rattle.std.proofs.Common.{◌≡◌, rules}
use Rattle.saga_history.specs.declared.turns.Turn.TheVariants.{Going}
use Rattle.saga_rows.proofs.RowLemmas.{ended_from, ended_into}
use Rattle.saga_rows.proofs.row.Row.is_ended.Goals as goal

pub returns-then-eq : goal.returns-then-eq
returns-then-eq c =
    let going : c.self.inside.turn ≡ Going = search rules in
    rw (← c.self.view_is) (
      λ none. record { going = going; finished = ended_from c.self.inside.definition.now _ _ _ c.self.invariant.tables.counted.unfinished_is none },
      λ ended. ended_into c.self.inside.definition.now _ _ _ c.self.invariant.tables.counted.unfinished_is ended.finished,
    )
