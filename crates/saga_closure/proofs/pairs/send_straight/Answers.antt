use Rattle.std.proofs.Common.{ℕ, ◌<◌, inl, inr, arith}
use Rattle.std.proofs.lemmas.Bool.{cases_eq}
use Rattle.saga_closure.specs.Nets.{terms_in}
use Rattle.saga_closure.proofs.ApartLemmas.{sided_on}
use Rattle.saga_closure.proofs.pairs.send_straight.Goals as goal

pub loop-v-preserved : goal.loop-v-preserved
loop-v-preserved c =
    let count : ℕ = (terms_in c.args.net.now).count in
    let here : c.loop-v.v < count = omega (arith, c.loop-v-test.true, c.loop-v.auto.v-end, c.steps-v-end.ensures.count) in
    record {
      progress = c.send_over.ensures.progress;
      small = c.send_over.ensures.small;
      one_sided = λ w lt. elim (cases_eq w c.loop-v.v) [
        | inl e ↦ rw e c.send_over.ensures.one_sided
        | inr ne ↦ sided_on c.args.net.now.caps.now c.loop-v.progress.on.items c.send_over.new.progress.on.items count c.loop-v.v w here (omega (arith, lt, ne, here)) ne c.send_over.ensures.others (c.loop-v.invariant.one_sided w (omega (arith, lt, ne)))
      ];
    }

pub returns-clause-one_sided : goal.returns-clause-one_sided
returns-clause-one_sided c = λ v lt. c.loop-v.invariant.one_sided v (omega (arith, lt, c.loop-v-test.false, c.loop-v.auto.v-end, c.steps-v-end.ensures.count))
