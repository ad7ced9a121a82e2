use mir.Val.{bool_byte}
use Rattle.std.proofs.Common.{◌≡◌, ◌∙◌, ap, arith, refl, sym}
use Rattle.std.specs.Prelude.{Bool, true, false, not}
use Rattle.saga_case.proofs.SumLemmas.{sum_none, sum_more}
use Rattle.saga_rows.proofs.RowLemmas.{unfinished_one}
use Rattle.saga_rows.specs.Row.{state_at, mark_at, is_finished, one_if}
use Rattle.saga_rows.specs.Tables.{unfinished_at}
use Rattle.saga_rows.proofs.row.count_unfinished.Goals as goal

byte_is : (b : Bool) → bool_byte b ≡ one_if b
byte_is true = refl
byte_is false = refl

pub loop-s-init : goal.loop-s-init
loop-s-init c = record { so_far = sym (sum_none (unfinished_at c.args.states.now c.args.goal.now)); few = omega arith }

pub loop-s-preserved : goal.loop-s-preserved
loop-s-preserved c =
    let same : c.from-unfinished.result ≡ unfinished_at c.args.states.now c.args.goal.now c.loop-s.s =
    c.from-unfinished.ensures ∙ ap (λ b. bool_byte (not b)) c.is_finished.ensures ∙ byte_is (not (is_finished (mark_at c.args.goal.now c.loop-s.s) (state_at c.args.states.now c.loop-s.s))) in
    record { so_far = omega (arith, sum_more c.loop-s.s (unfinished_at c.args.states.now c.args.goal.now), c.loop-s.invariant.so_far, same); few = omega (arith, c.loop-s.invariant.few, same, unfinished_one c.args.states.now c.args.goal.now c.loop-s.s) }
