use Rattle.std.proofs.Common.{ℕ, ◌<◌, ◌-◌, length, arith, get_or, refl}
use Rattle.saga_def.proofs.PeelLemmas.{lower_more, one_left, grown_yes, grown_no, pushed}
use Rattle.saga_def.proofs.cycles.lower.Goals as goal
use Rattle.saga_def.proofs.cycles.lower.Goals.{then-left-eq0+in_ok-push, else-left-eq0}

pub overflow_sub-left : goal.overflow_sub-left
overflow_sub-left c =
    let lt : c.loop-user.user-index < length c.args.users.now = omega arith in
    let known = c.requires.known c.loop-user.user-index 0 lt in
    omega (arith, one_left c.args.users.now _ _ _ _ c.loop-user.user-index lt known c.loop-user.invariant (c.requires.enough _ known))

pub loop-user-preserved : goal.loop-user-preserved
loop-user-preserved c =
    let i : ℕ = c.loop-user.user-index in
    let lt : i < length c.args.users.now = omega arith in
    let b : ℕ = get_or c.args.users.now i 0 in
    let known : b < length c.args.unmet.now = c.requires.known i 0 lt in
    let some : 0 < get_or c.loop-user.unmet b 0 = one_left c.args.users.now _ _ _ _ i lt known c.loop-user.invariant (c.requires.enough _ known) in
    let n : ℕ = get_or c.loop-user.unmet b 0 in
    elim c.if-left-eq0.branch [
      | then-left-eq0+in_ok-push w ↦ rw (w.todo-is, w.in_ok-push.ensures.items)
          (lower_more c.args.users.now c.args.unmet.now c.args.todo.now.items c.loop-user.unmet c.loop-user.todo.items _ i n (n - 1) lt (omega arith) known refl (omega arith) c.loop-user.invariant
          (grown_yes c.loop-user.todo.items b (n - 1) w.if-left-eq0.true)
          (pushed c.loop-user.todo.items (length c.args.unmet.now) b known))
      | else-left-eq0 w ↦ rw w.todo-is
          (lower_more c.args.users.now c.args.unmet.now c.args.todo.now.items c.loop-user.unmet c.loop-user.todo.items c.loop-user.todo.items i n (n - 1) lt (omega arith) known refl (omega arith) c.loop-user.invariant
          (grown_no c.loop-user.todo.items b (n - 1) w.if-left-eq0.false) (λ all. all))
    ]
