use Rattle.std.proofs.Common.{◌≡◌, true}
use Rattle.std.specs.List.{list_all, range_with_len}
use Rattle.saga_report.specs.Lines.{is_done}
use Rattle.saga_report.specs.Views.{story_in}
use Rattle.saga_report.proofs.lines.are_done.Given as goal

abbrev pub invariant-loop-step : goal.invariant-loop-step
invariant-loop-step l =
    list_all (λ s. is_done ((story_in l.saga).goal s) ((story_in l.saga).state s)) (range_with_len 0 l.step) ≡ true
