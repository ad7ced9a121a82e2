use Rattle.std.proofs.Common.{◌≡◌, ℕ, sym, nat_eq, get_or}
use Rattle.std.specs.HashMap.{get, get_by_text}
use Rattle.saga_script.specs.declared.endings.Ending.TheVariants.{Done}
use Rattle.saga_script.specs.Endings.{place_of}
use Rattle.saga_script.specs.Table.{key_of, ending_of_row, ending_of_rows}
use Rattle.saga_script.proofs.TableLemmas.{found_some, found_none, add_told, new_row_at, inserted_at}
use Rattle.saga_script.proofs.scripts.Script.add.Goals as goal
use Rattle.saga_script.proofs.scripts.Script.add.Goals.{in-Some, in-None, in-Some-get, in-None-get}

pub returns : goal.returns
returns c =
    let statement = c.args.statement.now in
    let name = statement.name.now in
    let table = c.args.self.now.table in
    let rows = c.match-remove.rows in
    let row = c.match-get.row in
    let found : (k t : ℕ) → ending_of_rows k t (get_by_text table name) ≡ ending_of_row t (get nat_eq rows k) = elim c.match-remove.branch [
      | in-Some w ↦ rw w.rows-is (found_some table w.in-Some.rows name (sym (w.in-Some.ensures.value)))
      | in-None w ↦ rw w.rows-is (found_none table w.new-rows.result name (sym (w.in-None.ensures.value)) w.new-rows.ensures.empty)
    ] in
    let of_row : (t : ℕ) → ending_of_row t (get nat_eq rows (key_of statement.saga statement.is_undo)) ≡ get_or row (place_of t) Done = elim c.match-get.branch [
      | in-Some-get w ↦ λ t. rw (← c.key_of-key.ensures, ← w.in-Some-get.ensures.value, w.row-is)
      | in-None-get w ↦ λ t. rw (← c.key_of-key.ensures, ← w.in-None-get.ensures.value, w.row-is) (new_row_at (place_of t))
    ] in
    add_told table c.remove.new.self c.insert-2.new.self rows c.insert.new.self row c.with_ending-row.result name statement.saga statement.is_undo statement.attempt statement.ending
    c.requires c.remove.ensures.updates found of_row (rw c.key_of-key.ensures at c.in_ok-insert.ensures.updates) c.with_ending-row.ensures (inserted_at c.remove.new.self c.insert-2.new.self c.in_ok-name.name name _ c.in_ok-name.ensures.ok c.in_ok-insert-2.ensures.updates)
