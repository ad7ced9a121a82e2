use Rattle.std.proofs.Common.{◌<◌, length, arith, get_or, refl}
use Rattle.saga_def.proofs.PeelLemmas.{free_more, grown_yes, grown_no, pushed}
use Rattle.saga_def.proofs.cycles.free_steps.Goals as goal
use Rattle.saga_def.proofs.cycles.free_steps.Goals.{then-unmet-s-eq0+in_ok-push, else-unmet-s-eq0}

pub loop-s-preserved : goal.loop-s-preserved
loop-s-preserved c =
    let lt : c.loop-s.s < length c.args.unmet.now = omega arith in
    elim c.if-unmet-s-eq0.branch [
      | then-unmet-s-eq0+in_ok-push w ↦ rw (w.todo-is, w.in_ok-push.ensures.items)
          (free_more c.args.unmet.now c.loop-s.todo.items _ c.loop-s.s (get_or c.args.unmet.now c.loop-s.s 0) lt refl
          (grown_yes c.loop-s.todo.items c.loop-s.s _ w.if-unmet-s-eq0.true)
          (pushed c.loop-s.todo.items (length c.args.unmet.now) c.loop-s.s lt) c.loop-s.invariant)
      | else-unmet-s-eq0 w ↦ rw w.todo-is
          (free_more c.args.unmet.now c.loop-s.todo.items c.loop-s.todo.items c.loop-s.s (get_or c.args.unmet.now c.loop-s.s 0) lt refl
          (grown_no c.loop-s.todo.items c.loop-s.s _ w.if-unmet-s-eq0.false) (λ all. all) c.loop-s.invariant)
    ]
