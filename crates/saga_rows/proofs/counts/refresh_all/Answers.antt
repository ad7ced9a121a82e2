use Rattle.std.proofs.Common.{◌≢◌, ◌<◌, ◌∙◌, false, length, ap, arith, below_more}
use Rattle.std.proofs.lemmas.List.{length-set, get_or-set_other, get_or-set_same}
use Rattle.saga_rows.proofs.counts.refresh_all.Goals as goal

pub loop-s-preserved : goal.loop-s-preserved
loop-s-preserved c =
    let lt : c.loop-s.s < length c.loop-s.ready = omega (arith, c.loop-s.invariant.sized, c.requires.states, c.loop-s-test.true) in
    record {
      sized = ap length c.set.ensures ∙ length-set c.loop-s.ready c.loop-s.s c.is_ready-mark.result ∙ c.loop-s.invariant.sized;
      marks = rw c.set.ensures (below_more _ _
          (λ k below. let apart : k ≢ c.loop-s.s = omega arith in get_or-set_other c.loop-s.ready c.loop-s.s k c.is_ready-mark.result false apart ∙ c.loop-s.invariant.marks k below)
          (get_or-set_same c.loop-s.ready c.loop-s.s c.is_ready-mark.result false lt ∙ c.is_ready-mark.ensures));
    }
