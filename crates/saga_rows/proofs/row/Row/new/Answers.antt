use Rattle.std.proofs.Common.{ℕ, ◌≡◌, ◌∙◌, length, ap, arith, replicate, rules}
use Rattle.std.specs.Prelude.{Bool, true, false}
use Rattle.std.proofs.lemmas.List.{length-replicate}
use Rattle.saga_case.specs.declared.states.StepState.TheVariants.{Waiting}
use Rattle.saga_rows.proofs.RowLemmas.{fresh}
use Rattle.saga_rows.proofs.row.Row.new.Goals as goal

pub invariant_of-result : goal.invariant_of-result
invariant_of-result c =
    let n = c.steps-count.ensures.count in
    let is : c.in_ok-states.states.items ≡ replicate c.steps-count.result Waiting = search rules in
    let isg : c.in_ok-goal.goal.items ≡ replicate c.steps-count.result true = search rules in
    let ish : c.in_ok-held.held.items ≡ replicate c.steps-count.result 0 = search rules in
    let long : length (replicate {A = Bool} c.steps-count.result false) ≡ c.steps-count.result = length-replicate {A = Bool} c.steps-count.result false in
    let was : length c.in_ok-ready.ready ≡ length c.args.definition.now.steps = ap length c.in_ok-ready.ensures ∙ long ∙ n in
    let marks = rw (c.deref.ensures.value, c.deref-2.ensures.value, c.deref-3.ensures.value, c.deref-4.ensures.value) at c.refresh_all.ensures.marks in
    let ism : c.in_ok-misses.misses.items ≡ replicate c.steps-count.result 0 = search rules in
    let isu : c.in_ok-undo_misses.undo_misses.items ≡ replicate c.steps-count.result 0 = search rules in
    record {
      tables = fresh c.args.definition.now c.in_ok-states.states.items c.in_ok-goal.goal.items c.in_ok-unmet.unmet.items c.in_ok-held.held.items c.count_unfinished-unfinished.result c.refresh_all.new.ready c.steps-count.ensures.sound (rw n at is) (rw n at isg)
          c.in_ok-unmet.ensures.sized c.in_ok-unmet.ensures.each (rw n at ish) (rw (c.deref-5.ensures.value, c.deref-6.ensures.value) at c.count_unfinished-unfinished.ensures) (c.refresh_all.ensures.sized ∙ was) (λ s lt. marks s (omega (arith, lt, was)));
      misses_sized = ap length ism ∙ length-replicate {A = ℕ} c.steps-count.result 0 ∙ n;
      undo_misses_sized = ap length isu ∙ length-replicate {A = ℕ} c.steps-count.result 0 ∙ n;
    }
