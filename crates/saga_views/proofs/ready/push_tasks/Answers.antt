use Rattle.std.proofs.Common.{◌≡◌, ℕ, ◌+◌, ◌*◌, arith, length, refl, subst}
use Rattle.saga_history.specs.declared.tasks.Task.TheVariants.{Run, Undo, Plan}
use Rattle.saga_views.specs.Ready.{IsReadyUpTo, ListsAll}
use Rattle.saga_views.proofs.ReadyLemmas.{adds_none, adds_one, begins_saga, ends_saga, passed}
use Rattle.saga_views.proofs.ready.push_tasks.Goals as goal

pub loop-step-init : goal.loop-step-init
loop-step-init c =
    let book = c.args.book.now in
    let i : ℕ = c.args.saga in
    let old = c.args.tasks.now.items in
    let new = c.push_task.new.tasks.items in
    record {
      all = λ from far lists. passed book from i 0 (Plan i) old new far refl refl c.in_ok-push_task.ensures (begins_saga book from i old lists);
      only = adds_one book i (Plan i) old old new refl (adds_none i old) c.in_ok-push_task.ensures;
    }

pub loop-step-preserved : goal.loop-step-preserved
loop-step-preserved c =
    let book = c.args.book.now in
    let i : ℕ = c.args.saga in
    let s : ℕ = c.loop-step.step in
    let start = c.args.tasks.now.items in
    let old = c.loop-step.tasks.items in
    let mid = c.push_task-in-loop-step.new.tasks.items in
    let new = c.push_task-in-loop-step-2.new.tasks.items in
    let far_on : 2 * s + 1 + 1 + 1 ≡ 2 * (s + 1) + 1 = omega arith in
    record {
      all = λ from far lists. subst (λ (n : ℕ). ListsAll (IsReadyUpTo book from i n) new) far_on
          (passed book from i (2 * s + 1 + 1) (Undo i s) mid new far refl (omega arith) c.in_ok-push_task-3.ensures
          (passed book from i (2 * s + 1) (Run i s) old mid far refl refl c.in_ok-push_task-2.ensures (c.loop-step.invariant.all from far lists)));
      only = adds_one book i (Undo i s) start mid new refl
          (adds_one book i (Run i s) start old mid refl c.loop-step.invariant.only c.in_ok-push_task-2.ensures) c.in_ok-push_task-3.ensures;
    }

pub returns-clause-all : goal.returns-clause-all
returns-clause-all c =
    let book = c.args.book.now in
    let i : ℕ = c.args.saga in
    let ts = c.loop-step.tasks.items in
    let d = c.in-Some.definition.now in
    let count : c.loop-step.step ≡ length d.steps = omega arith in
    λ from far lists. ends_saga book from i d ts c.in-Some.ensures
    (subst (λ (n : ℕ). ListsAll (IsReadyUpTo book from i (2 * n + 1)) ts) count (c.loop-step.invariant.all from far lists))
