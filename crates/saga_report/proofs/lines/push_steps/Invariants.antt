use Rattle.std.proofs.Common.{◌≡◌, ◌++◌, flat_map, string_bytes, slice_get}
use Rattle.std.specs.List.{range_with_len}
use Rattle.saga_report.specs.Lines.{step_line, name_of}
use Rattle.saga_report.specs.Views.{story_in}
use Rattle.saga_report.proofs.lines.push_steps.Given as goal

abbrev pub invariant-loop-step : goal.invariant-loop-step
invariant-loop-step l =
    string_bytes l.text ≡ string_bytes l.initial.text
    ++ flat_map (λ s. step_line s ((story_in l.saga).state s) (name_of (slice_get l.definition.steps s))) (range_with_len 0 l.step)
