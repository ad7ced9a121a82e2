use Rattle.std.proofs.Common.{◌≡◌, ◌<◌, ◌-◌, ◌^◌, vec_len}
use Rattle.saga_flow.specs.Levels.{IsLevelled}
use Rattle.saga_flow.specs.Progress.{IsProgress}
use Rattle.saga_flow.specs.Marks.{far_in}
use Rattle.saga_flow.proofs.phases.run_phase.Given as goal

abbrev pub invariant-loop-path : goal.invariant-loop-path
invariant-loop-path l = record {
  progress : IsProgress (l.graph.nodes) l.graph.arcs.now l.progress.on.items l.progress.value l.progress.rounds;
  levelled : IsLevelled l.graph.arcs.now l.progress.on.items (λ v. far_in l.marks 0 - far_in l.marks v);
  left : vec_len l.left ≡ l.graph.nodes;
  small : l.progress.value < 2 ^ 63;
  more : l.fn.progress.value < l.progress.value;
}

abbrev pub decreases-loop-path : goal.decreases-loop-path
decreases-loop-path l = 2 ^ 63 - l.progress.value
