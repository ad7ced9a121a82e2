use Rattle.std.proofs.Common.{ℕ, ◌<◌, ◌≤◌, Some, arith, length, subst, sym}
use Rattle.saga_views.specs.Ready.{IsReady, ListsAll}
use Rattle.saga_views.specs.Limits.{enough_tasks}
use Rattle.saga_views.proofs.ReadyLemmas.{adds_not_cut, up_to_next}
use Rattle.saga_views.proofs.ready.ready_tasks.Goals as goal

pub loop-task-preserved : goal.loop-task-preserved
loop-task-preserved c =
    let book = c.args.book.now in
    let from : ℕ = c.args.from in
    let old = c.loop-task.tasks.items in
    let first = c.in-Some.ensures.first in
    let far : from ≤ c.saga_of-found.result = omega (arith, c.saga_of-found.ensures, first.within, c.loop-task.invariant.far) in
    let few : length old < enough_tasks = omega arith in
    let here : ListsAll (IsReady book from (Some c.saga_of-found.result)) old = subst (λ (m : ℕ). ListsAll (IsReady book from (Some m)) old) (sym c.saga_of-found.ensures)
    (up_to_next book from c.loop-task.saga c.in-Some.task old c.loop-task.invariant.far first c.loop-task.invariant.each) in
    record {
      far = omega (arith, far);
      each = c.in_ok-push_tasks.ensures.all from far here;
      not_cut = adds_not_cut c.saga_of-found.result old c.push_tasks.new.tasks.items few c.in_ok-push_tasks.ensures.only;
    }
