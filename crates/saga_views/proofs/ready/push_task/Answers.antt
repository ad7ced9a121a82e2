use Rattle.std.proofs.Common.{◌≡◌, false, true, inr, refl}
use Rattle.saga_views.proofs.ready.push_task.Goals as goal

pub returns-else-may_start : goal.returns-else-may_start
returns-else-may_start c = inr (λ may. (let yes = c.may_start.ensures.1 may in let bad : false ≡ true = rw c.if-may_start.false at yes in cc), refl)
