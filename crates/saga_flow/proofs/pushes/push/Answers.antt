-- The residual arc at hand is the first of those that are left.
use Rattle.std.proofs.Common.{◌+◌, false, drop, get_or}
use Rattle.std.proofs.lemmas.List.{drop_more}
use Rattle.saga_flow.specs.Pushes.{CanShift}
use Rattle.saga_flow.proofs.PushLemmas.{All-first}
use Rattle.saga_flow.proofs.AmountLemmas.{pushing_more}
use Rattle.saga_flow.proofs.pushes.push.Goals as goal

pub shift-requires : goal.shift-requires
shift-requires c =
    let more = drop_more c.args.path.now c.loop-residual.residual-index (record { arc = 0; forward = false }) c.loop-residual-test.true in
    All-first (CanShift c.loop-residual.on c.args.more) _ (drop (c.loop-residual.residual-index + 1) c.args.path.now) (rw more at c.loop-residual.invariant.can)

pub loop-residual-preserved : goal.loop-residual-preserved
loop-residual-preserved c =
    let more = drop_more c.args.path.now c.loop-residual.residual-index (record { arc = 0; forward = false }) c.loop-residual-test.true in
    rw c.shift.ensures (pushing_more c.args.on.now c.args.path.now c.args.more c.loop-residual.on (get_or c.args.path.now c.loop-residual.residual-index (record { arc = 0; forward = false })) (drop (c.loop-residual.residual-index + 1) c.args.path.now) (rw more at c.loop-residual.invariant))
