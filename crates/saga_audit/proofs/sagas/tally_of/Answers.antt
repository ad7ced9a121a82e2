use mir.Val.{bool_byte}
use Rattle.std.proofs.Common.{◌≡◌, ◌∙◌, Bool, true, false, ap, refl, rules}
use Rattle.std.specs.Prelude.{◌↔◌, IsTrue}
use Rattle.saga_history.specs.Changes.{changes, past}
use Rattle.saga_history.specs.declared.turns.Turn.TheVariants.{Stuck}
use Rattle.saga_rows.specs.Row.{one_if}
use Rattle.saga_audit.specs.Groups.{ends, sticks}
use Rattle.saga_audit.proofs.RowLemmas.{ended_same, stuck_same}
use Rattle.saga_audit.proofs.sagas.tally_of.Goals as goal

byte_is : (b : Bool) → bool_byte b ≡ one_if b
byte_is true = refl
byte_is false = refl

pub returns : goal.returns
returns c =
    let told : IsTrue c.eq-stuck.result ↔ (c.args.row.now.turn ≡ Stuck) = search rules in
    let ended : c.from.result ≡ one_if (ends c.args.shelf.now c.args.events.now c.args.saga) =
    c.from.ensures ∙ byte_is c.is_ended-ended.result ∙ ap one_if (ended_same c.args.shelf.now c.args.row.now (changes c.args.saga (past c.args.events.now)) c.is_ended-ended.result c.requires c.is_ended-ended.ensures) in
    let stuck : c.from-2.result ≡ one_if (sticks c.args.events.now c.args.saga) =
    c.from-2.ensures ∙ byte_is c.eq-stuck.result ∙ ap one_if (stuck_same c.args.shelf.now c.args.row.now (changes c.args.saga (past c.args.events.now)) c.eq-stuck.result c.requires told) in
    cc
